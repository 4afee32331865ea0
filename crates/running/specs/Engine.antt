-- "An engine takes a record, a starting store, a list of answers and a step limit, and yields the events and the final store, with the
-- bytes written of each, the steps and how it ended.": its answer and both outputs, as functions of what it is given and lent.
use Rattle.std.specs.Prelude.{Result, Ok, Err, ℕ, zero, suc, Bool, true, false, cond, not, ◌&&◌, ◌||◌, List, [], ◌∷◌, ◌++◌, length, drop, ltb}
use Rattle.std.proofs.Math.Option.{Option, none, some}
use Rattle.arith.specs.Value.{Val, has_type}
use Rattle.record.specs.declared.Limits.{Limits}
use Rattle.record.specs.declared.Refusal.{Refusal}
use Rattle.record.specs.Record.{Instr, Placed, Block, Record, Function, function, plain, names_of, limits, id_bytes}
use Rattle.record.specs.Form.{Form, pure, new, effect, return, nop, jump, branch, form}
use Rattle.record.specs.Reader.{Res, got, fault}
use Rattle.record.specs.Typing.{accept}
use Rattle.record.specs.Answer.{Returned, success, refusal, fault_at}
use Rattle.running.specs.declared.Ending.{Ending}
use Rattle.running.specs.declared.Ending.TheVariants.{End, Ret, Halt, Unset, Division, Limit}
use Rattle.running.specs.declared.Run.{Run}
use Rattle.running.specs.declared.RunError.{RunError}
use Rattle.running.specs.declared.RunError.TheVariants.{Refused, Unfit, Room}
use Rattle.machine.specs.Machine.{Context, plain_machine, Answer, value, go_on, halt, Stop, at_end, at_ret, at_halt, at_unset, at_division, Mach, read_all}
use Rattle.running.specs.Steps.{Stand, facing, over, Config, take_step, steps, start}
use Rattle.running.specs.House.{stored, answers, of_types, holding, values_from, store_bytes, events_bytes}

-- ---- "an answer taken within the limit does not fit its instruction"
-- t: the type of dest. No answer is left, and the machine halts: nothing is taken, and nothing is unfit
unfoldable pub fits_value : ℕ → List Answer → Bool
fits_value t [] = true
fits_value t (value v ∷ xs) = has_type t v
fits_value t (go_on ∷ xs) = false
fits_value t (halt ∷ xs) = true

unfoldable pub fits_effect : List Answer → Bool
fits_effect [] = true
fits_effect (value v ∷ xs) = false
fits_effect (go_on ∷ xs) = true
fits_effect (halt ∷ xs) = true

-- what the machine performs itself takes no answer
abbrev pub fits_performed : ℕ → List Answer → Option Val → Bool
fits_performed t xs (some v) = true
fits_performed t xs none = fits_value t xs

-- "Arguments are read first": where one is not set, no answer is taken
unfoldable pub fits_new : Context → Instr → List Answer → Option (List Val) → Bool
fits_new ctx i xs none = true
fits_new ctx i xs (some vs) = fits_performed (ctx.types i.dest) xs (ctx.performs i.code vs)

unfoldable pub fits_told : List Answer → Option (List Val) → Bool
fits_told xs none = true
fits_told xs (some vs) = fits_effect xs

unfoldable pub fits_form : Context → Instr → Mach → Form → Bool
fits_form ctx i m (pure e) = true
fits_form ctx i m (new xs) = fits_new ctx i m.answers (read_all m.store xs)
fits_form ctx i m (effect xs) = fits_told m.answers (read_all m.store xs)
fits_form ctx i m (return xs) = true
fits_form ctx i m nop = true
fits_form ctx i m (jump b) = true
fits_form ctx i m (branch a b c) = true

-- the answer that the next step takes, if it takes one, fits its instruction
unfoldable pub fits : Context → Instr → Mach → Bool
fits ctx i m = fits_form ctx i m (form ctx.types i)

abbrev pub fits_at : Context → Mach → Stand → Bool
fits_at ctx m (facing b i is) = fits ctx i m
fits_at ctx m (over s) = true

-- one of the first k steps takes an answer that does not
unfoldable pub unfit_within : Context → List (Block Instr) → ℕ → Config → Bool
unfit_within ctx bs zero c = false
unfit_within ctx bs (suc k) c = not (fits_at ctx c.mach c.stand) || unfit_within ctx bs k (take_step ctx bs c)

-- ---- what a call comes to
-- check's refusal; 13; or a run: the bytes of an id, how many names there are, and where the run is after the limit's steps
pub data Outcome : Type 0 where
  refused : Refusal → ℕ → Outcome
  unfit : Outcome
  ran : ℕ → ℕ → Config → Outcome

-- a function from a list of values and a list of answers
abbrev pub starting : Function → List (Option Val) → List Answer → Config
starting f vs xs = start f.blocks (holding vs) xs

abbrev pub running_for : ℕ → Function → List (Option Val) → List Answer → Config
running_for limit f vs xs = steps (plain_machine f) f.blocks limit (starting f vs xs)

-- "13: .. a stored value is not of its name's type, or an answer taken within the limit does not fit its instruction"
abbrev pub lets_pass : ℕ → Function → List (Option Val) → List Answer → Bool
lets_pass limit f vs xs =
    of_types f.types vs && not (unfit_within (plain_machine f) f.blocks limit (starting f vs xs))

unfoldable pub with_inputs : ℕ → Record Instr → List (Option Val) → List Answer → Outcome
with_inputs limit r vs xs =
    let f = function r in
    cond (lets_pass limit f vs xs) (ran (id_bytes r.version) (names_of f) (running_for limit f vs xs)) unfit

-- "13: store or answers do not read so"
unfoldable pub with_read : ℕ → Record Instr → Res (List (Option Val)) → Res (List Answer) → Outcome
with_read limit r (got vs p) (got xs q) = with_inputs limit r vs xs
with_read limit r (got vs p) (fault k o) = unfit
with_read limit r (fault k o) list = unfit

-- "after check's refusals"
unfoldable pub with_record : ℕ → List ℕ → List ℕ → Res (Record Placed) → Outcome
with_record limit store list (fault k o) = refused k o
with_record limit store list (got r p) =
    with_read limit (plain r) (stored (names_of (function (plain r))) store 0) (answers list 0)

-- lim: the limits of the records that it takes, which are the input's
unfoldable pub outcome : Limits → List ℕ → List ℕ → List ℕ → ℕ → Outcome
outcome lim s store list limit = with_record limit store list (accept lim s)

-- ---- what it answers and leaves
-- "how it ended"
unfoldable pub stop_ending : Stop → Ending
stop_ending at_end = End
stop_ending at_ret = Ret
stop_ending at_halt = Halt
stop_ending at_unset = Unset
stop_ending (at_division id c) = Division id

abbrev pub ending_of : Stand → Ending
ending_of (facing b i is) = Limit
ending_of (over s) = stop_ending s

-- the bytes of the events, and of the store's names in order
unfoldable pub events_left : ℕ → Config → List ℕ
events_left w c = events_bytes w c.mach.events

unfoldable pub store_left : ℕ → Config → List ℕ
store_left N c = store_bytes (values_from c.mach.store 0 N)

-- "14: events or store need more bytes than were lent"
abbrev pub too_short : ℕ → ℕ → ℕ → ℕ → Bool
too_short room more e l = ltb room e || ltb more l

-- the answer of the engine: what the run comes to, or why nothing is written
abbrev pub Ran : Type 0
Ran = Result Run RunError

-- e bytes of events, l of the store, k steps
abbrev pub run_of : ℕ → ℕ → ℕ → Ending → Run
run_of e l k how = record { events = e; store = l; steps = k; ending = how }

abbrev pub done : ℕ → ℕ → ℕ → Ending → Ran
done e l k how = Ok (run_of e l k how)

-- room and more: the bytes lent for the events and for the store
unfoldable pub result : ℕ → ℕ → Outcome → Ran
result room more (refused k o) = Err (Refused (fault_at k o))
result room more unfit = Err Unfit
result room more (ran w N c) =
    let e = length (events_left w c) in
    let l = length (store_left N c) in
    cond (too_short room more e l) (Err (Room e l)) (done e l c.mach.steps (ending_of c.stand))

-- "Otherwise lent bytes beyond the events and the store are untouched."
abbrev pub written : List ℕ → List ℕ → List ℕ
written bytes lent = bytes ++ drop (length bytes) lent

-- "Both write nothing." at 13 and 14, and so does a refusal of check
unfoldable pub events_out : List ℕ → ℕ → Outcome → List ℕ
events_out lent more (refused k o) = lent
events_out lent more unfit = lent
events_out lent more (ran w N c) =
    cond (too_short (length lent) more (length (events_left w c)) (length (store_left N c))) lent (written (events_left w c) lent)

unfoldable pub store_out : ℕ → List ℕ → Outcome → List ℕ
store_out room lent (refused k o) = lent
store_out room lent unfit = lent
store_out room lent (ran w N c) =
    cond (too_short room (length lent) (length (events_left w c)) (length (store_left N c))) lent (written (store_left N c) lent)

-- ---- the engine
module _ (s store list : List ℕ) (limit : ℕ) (events left : List ℕ) where
  unfoldable pub engine : Ran
  engine = result (length events) (length left) (outcome limits s store list limit)

  unfoldable pub engine_events : List ℕ
  engine_events = events_out events (length left) (outcome limits s store list limit)

  unfoldable pub engine_store : List ℕ
  engine_store = store_out (length events) left (outcome limits s store list limit)

-- ---- the answer in numbers
-- how it ended, and the id of a division
unfoldable pub ending_values : Ending → List ℕ
ending_values End = 0 ∷ 0 ∷ []
ending_values Ret = 1 ∷ 0 ∷ []
ending_values Halt = 2 ∷ 0 ∷ []
ending_values Unset = 3 ∷ 0 ∷ []
ending_values (Division id) = 4 ∷ id ∷ []
ending_values Limit = 5 ∷ 0 ∷ []

unfoldable pub engine_answer : Ran → Returned
engine_answer (Ok r) = success (r.events ∷ r.store ∷ r.steps ∷ ending_values r.ending)
engine_answer (Err (Refused f)) = refusal f
engine_answer (Err Unfit) = record { number = 13; values = 0 ∷ [] }
engine_answer (Err (Room e l)) = record { number = 14; values = e ∷ l ∷ [] }
