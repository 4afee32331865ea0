-- "The plain machine": a store, the world's answers, one step, one block, and a run over any number of blocks.
use Rattle.std.specs.Prelude.{ℕ, zero, suc, Bool, true, false, List, [], ◌∷◌, ◌++◌}
use Rattle.std.proofs.Math.Option.{Option, none, some}
use Rattle.arith.specs.Map.{upd}
use Rattle.arith.specs.Value.{Val, has_type}
use Rattle.arith.specs.Operation.{Cause, Result, ok, stops, unset, as_bool, eval}
use Rattle.record.specs.declared.NameIx.{NameIx}
use Rattle.record.specs.Record.{NameIx-discrete, Instr, Block, Function, type_in}
use Rattle.record.specs.Form.{Form, pure, new, effect, return, nop, jump, branch, form}

-- "A store gives each name a value or nothing."
abbrev pub Store : Type 0
Store = NameIx → Option Val

-- what a machine is told of a function: the types of its names, and which of the codes 20 to 39 it performs itself
pub record Context : Type 0 where
  pub types : NameIx → ℕ
  pub performs : ℕ → List Val → Option Val

-- the plain machine performs none of them
abbrev pub plain_machine : Function → Context
plain_machine f = record { types = type_in f.types; performs = λ code vs. none }

-- what the world says to an event: a value, go on, or halt
pub data Answer : Type 0 where
  value : Val → Answer
  go_on halt : Answer

-- "an event (id, code, callee, argument values)"
pub record Event : Type 0 where
  pub id : ℕ
  pub code : ℕ
  pub callee : ℕ
  pub args : List Val

-- "The stops are the end, ret, halt, unset and a division", a division's by id and cause
pub data Stop : Type 0 where
  at_end at_ret at_halt at_unset : Stop
  at_division : ℕ → Cause → Stop

-- the store and the answers left, the events so far in order, and the steps counted
pub record Mach : Type 0 where
  pub store : Store
  pub answers : List Answer
  pub events : List Event
  pub steps : ℕ

-- ---- one step
pub data Step : Type 0 where
  goes : Mach → Step
  jumps : ℕ → Mach → Step
  ends : Stop → Mach → Step

-- "A step does one instruction and counts one, also when it stops."
unfoldable pub tick : Mach → Mach
tick m = record { store = m.store; answers = m.answers; events = m.events; steps = suc m.steps }

unfoldable pub assign : Mach → NameIx → Val → Mach
assign m d v =
    record { store = upd NameIx-discrete m.store d (some v); answers = m.answers; events = m.events; steps = m.steps }

-- an event is added, and the answers that are left then
unfoldable pub happens : Mach → Event → List Answer → Mach
happens m e xs = record { store = m.store; answers = xs; events = m.events ++ (e ∷ []); steps = m.steps }

-- "Arguments are read first"
abbrev pub read_cons : Option Val → Option (List Val) → Option (List Val)
read_cons none vs = none
read_cons (some v) none = none
read_cons (some v) (some vs) = some (v ∷ vs)

unfoldable pub read_all : Store → List NameIx → Option (List Val)
read_all σ [] = some []
read_all σ (x ∷ xs) = read_cons (σ x) (read_all σ xs)

-- "An event without a callee has 0 there.": so has an instruction
abbrev pub event_of : Instr → List Val → Event
event_of i vs = record { id = i.id; code = i.code; callee = i.callee; args = vs }

-- "div by 0 .. stops there, by id and cause"; "reading nothing stops as unset"
unfoldable pub finish : Instr → Mach → Result → Step
finish i m (ok v) = goes (assign m i.dest v)
finish i m (stops c) = ends (at_division i.id c) m
finish i m unset = ends at_unset m

-- "a value of dest's type .. or halt; any other answer, or none left, halts"
unfoldable pub take_value : Bool → Instr → Mach → Val → Step
take_value true i m v = goes (assign m i.dest v)
take_value false i m v = ends at_halt m

unfoldable pub answered : ℕ → Instr → Mach → Event → List Answer → Step
answered t i m e [] = ends at_halt (happens m e [])
answered t i m e (value v ∷ xs) = take_value (has_type t v) i (happens m e xs) v
answered t i m e (go_on ∷ xs) = ends at_halt (happens m e xs)
answered t i m e (halt ∷ xs) = ends at_halt (happens m e xs)

-- performed by the machine itself, or asked of the world
unfoldable pub perform : ℕ → Instr → Mach → List Val → Option Val → Step
perform t i m vs (some v) = goes (assign m i.dest v)
perform t i m vs none = answered t i m (event_of i vs) m.answers

unfoldable pub ask : Context → Instr → Mach → Option (List Val) → Step
ask ctx i m none = ends at_unset m
ask ctx i m (some vs) = perform (ctx.types i.dest) i m vs (ctx.performs i.code vs)

-- "(go on, for effects)"
unfoldable pub acknowledged : Mach → Event → List Answer → Step
acknowledged m e [] = ends at_halt (happens m e [])
acknowledged m e (value v ∷ xs) = ends at_halt (happens m e xs)
acknowledged m e (go_on ∷ xs) = goes (happens m e xs)
acknowledged m e (halt ∷ xs) = ends at_halt (happens m e xs)

unfoldable pub tell : Instr → Mach → Option (List Val) → Step
tell i m none = ends at_unset m
tell i m (some vs) = acknowledged m (event_of i vs) m.answers

-- "ret adds its event and ends."
unfoldable pub leave : Instr → Mach → Option (List Val) → Step
leave i m none = ends at_unset m
leave i m (some vs) = ends at_ret (happens m (event_of i vs) m.answers)

unfoldable pub choose : ℕ → ℕ → Mach → Option Bool → Step
choose b c m none = ends at_unset m
choose b c m (some true) = jumps b m
choose b c m (some false) = jumps c m

abbrev pub bool_in : Option Val → Option Bool
bool_in none = none
bool_in (some v) = as_bool v

-- over a machine that has counted the step
unfoldable pub act : Context → Instr → Mach → Form → Step
act ctx i m (pure e) = finish i m (eval m.store e)
act ctx i m (new xs) = ask ctx i m (read_all m.store xs)
act ctx i m (effect xs) = tell i m (read_all m.store xs)
act ctx i m (return xs) = leave i m (read_all m.store xs)
act ctx i m nop = goes m
act ctx i m (jump b) = jumps b m
act ctx i m (branch a b c) = choose b c m (bool_in (m.store a))

unfoldable pub step : Context → Instr → Mach → Step
step ctx i m = act ctx i (tick m) (form ctx.types i)

-- ---- one block
-- passed, to the block that follows or to another; or stopped at a place of it
pub data Out : Type 0 where
  falls : Mach → Out
  leaps : ℕ → Mach → Out
  breaks : Stop → ℕ → Mach → Out

abbrev pub after : Step → ℕ → (Mach → Out) → Out
after (goes m) p rest = rest m
after (jumps b m) p rest = leaps b m
after (ends s m) p rest = breaks s p m

-- p: the place of the first of these in the block
unfoldable pub run_block : Context → List Instr → ℕ → Mach → Out
run_block ctx [] p m = falls m
run_block ctx (i ∷ is) p m = after (step ctx i m) p (run_block ctx is (suc p))

-- ---- a run
-- before a block; or stopped in a block at a place
pub data Place : Type 0 where
  before : ℕ → Place
  stopped : Stop → ℕ → ℕ → Place

-- passed: the blocks passed, the latest first
pub record Run : Type 0 where
  pub place : Place
  pub passed : List ℕ
  pub mach : Mach

unfoldable pub nth : {A : Type 0} → List A → ℕ → Option A
nth [] n = none
nth (x ∷ xs) zero = some x
nth (x ∷ xs) (suc n) = nth xs n

abbrev pub arrived : Option (Block Instr) → ℕ → Place
arrived none b = stopped at_end b 0
arrived (some x) b = before b

-- "past the last, the run ends"; "B of 0 ends"
unfoldable pub arrive : List (Block Instr) → ℕ → Place
arrive bs b = arrived (nth bs b) b

-- "A block is passed once its last instruction is done without a stop, an empty one without a step."
unfoldable pub passes : List (Block Instr) → ℕ → List ℕ → Out → Run
passes bs b l (falls m) = record { place = arrive bs (suc b); passed = b ∷ l; mach = m }
passes bs b l (leaps c m) = record { place = arrive bs c; passed = b ∷ l; mach = m }
passes bs b l (breaks s p m) = record { place = stopped s b p; passed = l; mach = m }

unfoldable pub through : Context → List (Block Instr) → ℕ → List ℕ → Mach → Option (Block Instr) → Run
through ctx bs b l m none = record { place = stopped at_end b 0; passed = l; mach = m }
through ctx bs b l m (some x) = passes bs b l (run_block ctx x.body 0 m)

-- "A stopped run stays as it is for every greater number of blocks."
unfoldable pub advance_from : Context → List (Block Instr) → Place → List ℕ → Mach → Run
advance_from ctx bs (before b) l m = through ctx bs b l m (nth bs b)
advance_from ctx bs (stopped s b p) l m = record { place = stopped s b p; passed = l; mach = m }

unfoldable pub advance : Context → List (Block Instr) → Run → Run
advance ctx bs r = advance_from ctx bs r.place r.passed r.mach

-- "Start: block 0."
unfoldable pub begin : List (Block Instr) → Store → List Answer → Run
begin bs σ xs =
    record { place = arrive bs 0; passed = []; mach = record { store = σ; answers = xs; events = []; steps = 0 } }

unfoldable pub iterate : {A : Type 0} → ℕ → (A → A) → A → A
iterate zero f x = x
iterate (suc n) f x = f (iterate n f x)

-- n blocks, from a store and a list of answers
unfoldable pub run_with : Context → List (Block Instr) → Store → List Answer → ℕ → Run
run_with ctx bs σ xs n = iterate n (advance ctx bs) (begin bs σ xs)

-- the run of a function
unfoldable pub run : Function → Store → List Answer → ℕ → Run
run f σ xs n = run_with (plain_machine f) f.blocks σ xs n
