-- Start here: what is proved of an accepted record and its rewriting, each theorem with its sentence.
-- The statements are in specs/Demand.antt, and in numbering's specs/Ways.antt for demand 1 and specs/Ahead.antt for the figures; this file
-- puts together what the other files prove. What the contracts of rewrite and figures come to is in Contract.antt; what is proved of running
-- an accession (document 02, Point 6) is in TheoremsRunning.antt, and of widening and narrowing (Point 7) in TheoremsVersions.antt.
use Prim.Native.Nat.{ℕ, suc, ◌<◌, ◌≤◌}
use mathlib.Core.Path.{◌≡◌, refl, sym, ap, ◌∙◌, subst}
use mathlib.Core.Logic.{◌≢◌, ◌↔◌, ◌⊎◌}
use mathlib.Core.Bool.{true}
use mathlib.Core.List.{List, [], ◌∷◌, ◌++◌, map, map-append}
use mathlib.Core.Option.{Option, none, some}
use native.Mathlib.Nat.{add-zero}
use lib.ListN.{length, get_or, length-map}
use lib.Signed.{quot_z}
use mir.Syntax.{w64}
use mir.Val.{to_z}
use Rattle.arith.specs.declared.Two.TheVariants.{Div}
use Rattle.arith.specs.Word.{W, least, minus_one, div_w}
use Rattle.arith.specs.Value.{tint, Val, int}
use Rattle.arith.specs.Operation.{Cause, by_zero, ok, stops, divide, constant, two}
use Rattle.arith.proofs.Signed.{word_of, div_w_wraps}
use Rattle.arith.proofs.Operation.{divide_stops}
use Rattle.record.specs.declared.NameIx.{NameIx}
use Rattle.std.specs.Prelude.{Ok, Err}
use Rattle.record.specs.declared.Fault.{Fault}
use Rattle.record.specs.Record.{nm, Bytes, Instr, Placed, Block, Name, Record, Function, plain, function, texts, names_of, type_in, arg, limits, wide}
use Rattle.record.specs.Reader.{got}
use Rattle.record.specs.Read.{read}
use Rattle.record.specs.Write.{bytes}
use Rattle.record.specs.Answer.{checked}
use Rattle.record.specs.Good.{Each, RecordOk, PhiOk}
use Rattle.record.specs.Short.{gives, set}
use Rattle.record.proofs.Accepted.{read_ok}
use Rattle.record.proofs.ReadBack.{reads_back}
use Rattle.record.proofs.ReadFrom.{accept_from}
use Rattle.record.proofs.Typed.{accept_typed}
use Rattle.numbering.specs.declared.ValNum.{ValNum}
use Rattle.numbering.specs.Number.{rewrite_instr, instr_lvn, block_lvn, count_saves, blocks_lvn, lvn}
use Rattle.numbering.specs.State.{State, start, gen_new_vals, known}
use Rattle.numbering.specs.Simplify.{simplify}
use Rattle.numbering.specs.Shared.{behind, Exchanged, SharesNumber, NewNumber}
use Rattle.numbering.specs.Decimal.{Decimal}
use Rattle.numbering.specs.Made.{digits, made_name, made_names, made, rewriting}
use Rattle.numbering.specs.declared.RewriteError.TheVariants.{Room}
use Rattle.numbering.specs.declared.FiguresError.TheVariants.{Refused, TooFew}
use Rattle.numbering.specs.Rewrite.{Rewritten, totals}
use Rattle.numbering.specs.Rewrite.{rewritten_bytes, rewrite, rewrite_leaves}
use Rattle.numbering.specs.Figures.{figures, figures_leaves}
use Rattle.numbering.specs.Ways.{all_saves, Ends}
use Rattle.numbering.specs.Ahead.{FewPlaces, Foretold}
use Rattle.numbering.specs.Program.{most_input, buffer_size}
use Rattle.numbering.proofs.Wide.{rewriting_passes}
use Rattle.numbering.proofs.Size.{rewriting_room}
use Rattle.numbering.proofs.Output.{accepted_bytes, buffer_suffices}
use Rattle.numbering.proofs.Digits.{digits_are, digits_alone}
use Rattle.numbering.proofs.Made.{saves_of, saves_args, names_from, saves_dests, lvn_makes}
use Rattle.numbering.proofs.Differ.{texts_differ}
use Rattle.numbering.proofs.Ways.{made_saves, three_ways, ends_alone}
use Rattle.numbering.proofs.Ahead.{figures_foretell, foretold_alone, written_was_foretold, room_was_foretold, figures_refuse, too_few, figures_keep_length, figures_untouched}
use Rattle.numbering.proofs.Greater.{greater_is_less, greater_equal_is_less_equal}
use Rattle.numbering.proofs.NoGreater.{none_greater}
use Rattle.numbering.proofs.Shared.{shared_number}
use Rattle.numbering.proofs.Quotient.{quotient_simplified, stays_by_zero, quotient_is_constant}
use Rattle.numbering.proofs.Given.{Numbers}
use Rattle.numbering.proofs.Phi.{phi_kept, phi_above}
use Rattle.machine.specs.Machine.{Store, Context, plain_machine, Answer, at_unset, at_division, Mach, goes, ends, tick, assign, read_all, event_of, answered, step, stopped, run}
use Rattle.machine.specs.Reached.{read_no_unset}
use Rattle.pairing.specs.Demand.{shown, stop, Agree, TypedStore, Starts, RunAlike, SavesBounded, All}
use Rattle.pairing.specs.Contract.{Accepted}
use Rattle.pairing.specs.Progress.{DividesByZero, Progress}
use Rattle.pairing.proofs.Accepted.{accepted_fit}
use Rattle.pairing.proofs.Progress.{progress, read_then_quiet, quiet_then_read}
use Rattle.pairing.proofs.Functions.{fit_blocks, saves_bounded, demand3}
use Rattle.pairing.proofs.Division.{quotient_step, zero_step}
use Rattle.pairing.proofs.Joining.{blocks_phis, phi_step, phi_unset}

-- Demand 1: rewrite ends in exactly one of three ways, for every input and output: check's refusal with its reason and offset, the bytes
-- needed, or the rewriting written with its length and all saves. The first two change no byte, the third none beyond; none the length.
pub ends_in_one_way : (s out : List ℕ) → Ends s out (rewrite s out) (rewrite_leaves s out)
ends_in_one_way = three_ways

-- No other answer and no other output end so.
pub ends_so_alone :
    (s out : List ℕ) (answer : Rewritten) (left : List ℕ) →
    Ends s out answer left → (answer ≡ rewrite s out) × (left ≡ rewrite_leaves s out)
ends_so_alone = ends_alone

-- Demand 3: the function of an accepted record and its rewriting run alike, from every typed store in which every argument is set,
-- with every list of answers, over every number of blocks in which the first run has read no unset name, step counts included.
pub runs_alike : (s : List ℕ) (r : Record Placed) → Accepted s r → RunAlike (function (plain r)) (lvn (function (plain r)))
runs_alike s r a = demand3 (function (plain r)) (accepted_fit s a.bytes r a.end a.accepted)

-- Progress: whatever the answers and the number of blocks, a run of an accepted function from a typed store leaves the store typed;
-- where it has stopped as unset, the instruction at that place has an argument that holds nothing, and where it has stopped in a division,
-- that instruction is one by 0. So no operation on values, no branch and no event stops so for another reason. That the function's
-- arguments are set is not asked.
pub runs_progress :
    (s : List ℕ) (r : Record Placed) → Accepted s r → (σ : Store) → TypedStore (function (plain r)) σ →
    (answers : List Answer) (n : ℕ) → Progress (function (plain r)) (run (function (plain r)) σ answers n)
runs_progress s r a = progress (function (plain r)) (accepted_fit s a.bytes r a.end a.accepted)

-- The premise of demand 3 and the stop: such a run has read no unset name exactly as long as it has not stopped as unset.
pub unset_read_or_stopped :
    (s : List ℕ) (r : Record Placed) → Accepted s r → (σ : Store) → TypedStore (function (plain r)) σ → (answers : List Answer) (n : ℕ) →
    (read_no_unset (function (plain r)) σ answers n ≡ true) ↔ (shown (run (function (plain r)) σ answers n).place ≢ stop at_unset)
unset_read_or_stopped s r a σ typed answers n =
    let fit = accepted_fit s a.bytes r a.end a.accepted in (
      read_then_quiet (function (plain r)) fit σ typed answers n,
      quiet_then_read (function (plain r)) fit σ typed answers n,
    )

-- So demand 3 asks no more of a run than that it has not stopped as unset.
pub runs_alike_unless_unset :
    (s : List ℕ) (r : Record Placed) → Accepted s r → (σ₁ σ₂ : Store) → Starts (function (plain r)) σ₁ σ₂ → (answers : List Answer) (n : ℕ) →
    shown (run (function (plain r)) σ₁ answers n).place ≢ stop at_unset →
    Agree (names_of (function (plain r))) (lvn (function (plain r))).blocks (run (function (plain r)) σ₁ answers n)
    (run (lvn (function (plain r))) σ₂ answers n)
runs_alike_unless_unset s r a σ₁ σ₂ starts answers n h =
    runs_alike s r a σ₁ σ₂ starts answers n ((unset_read_or_stopped s r a σ₁ starts.typed answers n).1 h)

-- No block of the rewriting has more saves than the same block of the input has instructions with a destination.
pub few_saves : (s : List ℕ) (r : Record Placed) → Accepted s r → SavesBounded (function (plain r)) (lvn (function (plain r)))
few_saves s r a = saves_bounded (function (plain r)) (accepted_fit s a.bytes r a.end a.accepted)

-- An accepted record is the bytes of what is read of it.
pub is_its_bytes : (s : List ℕ) (r : Record Placed) → Accepted s r → bytes (plain r) ≡ s
is_its_bytes s r a = accept_from limits s a.bytes r a.end a.accepted

good : (s : List ℕ) (r : Record Placed) → Accepted s r → RecordOk limits (plain r)
good s r a = read_ok limits s r a.end (accept_typed limits s r a.end a.accepted).reads

-- 65,536 bytes suffice for the rewriting of an input of at most 8,192, of either version.
pub buffer_is_enough :
    (s : List ℕ) (r : Record Placed) → Accepted s r → length s ≤ most_input → length (rewritten_bytes r) ≤ buffer_size
unfolding rewritten_bytes
buffer_is_enough s r a l =
    rewriting_room (plain r) (good s r a) (subst (λ t. length t ≤ 8192) (sym (is_its_bytes s r a)) l)

-- So the program never refuses an input for want of room.
pub program_has_room :
    (s out : List ℕ) → Bytes s → length s ≤ most_input → buffer_size ≤ length out → (m : ℕ) → rewrite s out ≡ Err (Room m) → ⊥
program_has_room = buffer_suffices

-- ---- the bytes of the rewriting
-- the rewriting as a record has the rewriting as its function
made_types :
    (r : Record Instr) (k : ℕ) (xs : List NameIx) →
    map (λ (x : Name). x.type) (made_names r k xs) ≡ map (type_in (function r).types) xs
unfolding made_names made_name
made_types r k [] = refl
made_types r k (x ∷ xs) = ap (λ (ts : List ℕ). type_in (function r).types x ∷ ts) (made_types r (suc k) xs)

pub function_of_rewriting : (r : Record Instr) → function (rewriting r) ≡ lvn (function r)
unfolding rewriting lvn
function_of_rewriting r =
    let old = map (λ (x : Name). x.type) r.names in
    let types : map (λ (x : Name). x.type) (r.names ++ made_names r 0 (made r)) ≡ old ++ map (type_in (function r).types) (made r) =
    map-append (λ (x : Name). x.type) r.names (made_names r 0 (made r)) ∙ ap (λ (ts : List ℕ). old ++ ts) (made_types r 0 (made r)) in
    ap (λ (ts : List ℕ). record { args = r.args; types = ts; blocks = (lvn (function r)).blocks }) types

-- What is written of a rewriting is read back, by the same definition of reading with the wider limits, as the rewriting:
-- its function and its texts.
pub record ReadsAsRewriting (r : Record Placed) : Type 0 where
  pub back : Record Placed
  pub reads : read wide (rewritten_bytes r) 0 ≡ got back (length (rewritten_bytes r))
  pub same : plain back ≡ rewriting (plain r)
  pub rewritten : function (plain back) ≡ lvn (function (plain r))

pub reads_as_rewriting : (s : List ℕ) (r : Record Placed) → Accepted s r → ReadsAsRewriting r
unfolding rewritten_bytes
reads_as_rewriting s r a =
    let q = reads_back wide (rewriting (plain r)) (rewriting_passes (plain r) (good s r a)) in
    record {
      back = q.back;
      reads = q.reads;
      same = q.same;
      rewritten = ap function q.same ∙ function_of_rewriting (plain r);
    }

-- What is written are bytes.
pub written_are_bytes : (s : List ℕ) (r : Record Placed) → Accepted s r → Bytes (rewritten_bytes r)
written_are_bytes s r a = accepted_bytes s a.bytes r a.end a.accepted

-- Demand 3 over bytes: the function that is read from the input and the function that is read from the output run alike.
pub bytes_run_alike :
    (s : List ℕ) (r : Record Placed) (a : Accepted s r) →
    RunAlike (function (plain r)) (function (plain (reads_as_rewriting s r a).back))
bytes_run_alike s r a =
    subst (λ g. RunAlike (function (plain r)) g) (sym (reads_as_rewriting s r a).rewritten) (runs_alike s r a)

-- ---- the names and the counts of the rewriting
-- As many names are made as there are saves in all blocks. The K-th save, in the order of the blocks, makes the name N + K, which has
-- the text `_x_lvnK` and the type of the name x that it saves.
pub record NamesMade (r : Record Placed) : Type 0 where
  pub count : length (made (plain r)) ≡ all_saves (rewriting (plain r)).blocks
  pub table : (rewriting (plain r)).names ≡ (plain r).names ++ made_names (plain r) 0 (made (plain r))
  pub saved : map (λ i. arg i 0) (saves_of (length r.names) (rewriting (plain r)).blocks) ≡ made (plain r)
  pub indexes :
      map (λ i. i.dest) (saves_of (length r.names) (rewriting (plain r)).blocks) ≡
      names_from (length r.names) (length (made (plain r)))

pub names_made : (s : List ℕ) (r : Record Placed) → Accepted s r → NamesMade r
unfolding rewriting lvn
names_made s r a =
    let f = function (plain r) in
    let N : names_of f ≡ length r.names = length-map r.names (λ x. x.type) in
    let fit = accepted_fit s a.bytes r a.end a.accepted in
    let makes = lvn_makes f (fit_blocks (names_of f) (type_in f.types) f.blocks fit.blocks) in
    let dests : map (λ i. i.dest) (saves_of (names_of f) (lvn f).blocks) ≡ names_from (names_of f) (length (made (plain r))) =
    saves_dests (names_of f) 0 (lvn f).blocks makes ∙ ap (λ n. names_from n (length (made (plain r)))) (add-zero (names_of f)) in
    record {
      count = made_saves r;
      table = refl;
      saved = subst (λ n. map (λ i. arg i 0) (saves_of n (lvn f).blocks) ≡ made (plain r)) N (saves_args (names_of f) (lvn f).blocks);
      indexes = subst (λ n. map (λ i. i.dest) (saves_of n (lvn f).blocks) ≡ names_from n (length (made (plain r)))) N dests;
    }

-- All names of the rewriting have different texts: made names differ from each other and from the input's.
pub all_texts_differ :
    (s : List ℕ) (r : Record Placed) → Accepted s r →
    (i j : ℕ) → i < j → j < length (rewriting (plain r)).names →
    get_or (texts (rewriting (plain r))) i [] ≢ get_or (texts (rewriting (plain r))) j []
all_texts_differ s r a = texts_differ wide [] (rewriting (plain r)).names (rewriting_passes (plain r) (good s r a)).names

-- The saves field of each block of a rewriting is the number of its instructions with a made destination.
pub saves_fields :
    (f : Function) → All (λ (b : Block Instr). b.saves ≡ count_saves (names_of f) b.body) (lvn f).blocks
unfolding lvn blocks_lvn
saves_fields f = from 0 f.blocks
  where
    from : (k : ℕ) (bs : List (Block Instr)) → All (λ (b : Block Instr). b.saves ≡ count_saves (names_of f) b.body) (blocks_lvn f k bs)
    from k [] = tt
    from k (b ∷ bs) = (refl, from (block_lvn (names_of f) (type_in f.types) (start f.args k) b.body).temps bs)

-- ---- figures ahead of filing (document 02, Point 1)
-- "these are the figures that rewrite would give": where they are n bytes and k saves, rewrite writes n bytes with k saves into every output
-- that holds n, and asks for n in every other; and the places hold, for each block that is then filed, its n, and beyond what they held.
pub figures_are_rewrites : (s each : List ℕ) (n k : ℕ) → figures s each ≡ Ok (totals n k) → Foretold s each n k
figures_are_rewrites = figures_foretell

-- No other bytes and saves foretell so.
pub figures_alone : (s each : List ℕ) (n k : ℕ) → Foretold s each n k → figures s each ≡ Ok (totals n k)
figures_alone = foretold_alone

-- Whatever rewrite writes, into any output, was foretold, unless there were too few places.
pub written_as_foretold :
    (s each out : List ℕ) (n k : ℕ) → rewrite s out ≡ Ok (totals n k) → (figures s each ≡ Ok (totals n k)) ⊎ (figures s each ≡ Err TooFew)
written_as_foretold = written_was_foretold

-- So were the bytes that it asks for.
pub room_as_foretold :
    (s each out : List ℕ) (n : ℕ) → rewrite s out ≡ Err (Room n) → ((k : ℕ) × (figures s each ≡ Ok (totals n k))) ⊎ (figures s each ≡ Err TooFew)
room_as_foretold = room_was_foretold

-- The figures are refused as check refuses, with its reason and offset, however many places there are.
pub figures_refused_as_checked :
    (s each : List ℕ) (f : Fault) → (figures s each ≡ Err (Refused f)) ↔ (checked s ≡ Err f)
figures_refused_as_checked = figures_refuse

-- 12: exactly where check accepts and there are fewer places than blocks.
pub refused_for_few_places : (s each : List ℕ) → (figures s each ≡ Err TooFew) ↔ FewPlaces s (length each)
refused_for_few_places = too_few

-- The places stay as many as they were; a refusal writes none of them.
pub places_stay : (s each : List ℕ) → length (figures_leaves s each) ≡ length each
places_stay = figures_keep_length

pub refusals_write_no_place : (s each : List ℕ) → ((n k : ℕ) → figures s each ≢ Ok (totals n k)) → figures_leaves s each ≡ each
refusals_write_no_place = figures_untouched

-- ---- the greater is the less, swapped (document 02, Point 2)
-- "Groups comparing passes expect gt a b and lt b a to share a number": wherever in a block the two stand, the one or the other first, behind
-- any instructions js and with any instructions is between them, if a and b have the same numbers at both; ge a b and le b a likewise.
pub exchanged_share_number :
    (c d : ℕ) → Exchanged c d → (N : ℕ) (t : NameIx → ℕ) (A k : ℕ) (js is : List Instr) (i j x y a b : ℕ) →
    SharesNumber c d N t (behind N t (start A k) js) is i j x y a b
exchanged_share_number = shared_number

-- "simplify turns an unfolded gt into lt with its operands exchanged": where a and b have numbers, the instruction x = gt a b is rewritten
-- as x = lt b a under the same id would be: the same saves, the same instruction and the same state behind it. So where one folds
-- the other does.
pub greater_as_less :
    (N : ℕ) (t : NameIx → ℕ) (s : State) (id x a b : ℕ) (v w : ValNum) → s.env (nm a) ≡ some v → s.env (nm b) ≡ some w →
    instr_lvn N t s (gives id x 7 (a ∷ b ∷ [])) ≡ instr_lvn N t s (gives id x 6 (b ∷ a ∷ []))
greater_as_less = greater_is_less

-- "and ge into le likewise"
pub greater_equal_as_less_equal :
    (N : ℕ) (t : NameIx → ℕ) (s : State) (id x a b : ℕ) (v w : ValNum) → s.env (nm a) ≡ some v → s.env (nm b) ≡ some w →
    instr_lvn N t s (gives id x 9 (a ∷ b ∷ [])) ≡ instr_lvn N t s (gives id x 8 (b ∷ a ∷ []))
greater_equal_as_less_equal = greater_equal_is_less_equal

-- No instruction of a rewriting is gt or ge.
pub no_greater_written : (f : Function) → All (λ (b : Block Instr). All (λ (i : Instr). (i.code ≢ 7) × (i.code ≢ 9)) b.body) (lvn f).blocks
no_greater_written = none_greater

-- ---- digits straight into the name (document 02, Point 3)
-- "exactly its decimal digits, with no leading zero but for 0 itself": the digits that the text of a made name has are those of K, each of
-- them 0 to 9, of the value K in base ten, and 0 is the first of them only in 0 itself. That they are written so is the contract of
-- `write_bytes::put_digits`.
pub digits_are_decimal : (k : ℕ) → Decimal k (digits k)
digits_are_decimal = digits_are

-- No other list of bytes is the decimal digits of a number.
pub decimal_alone : (k : ℕ) (t : List ℕ) → Decimal k t → t ≡ digits k
decimal_alone = digits_alone

-- ---- the smallest number over minus one (document 02, Point 4)
-- "overflow in arithmetic follows two's complement, division included": the quotient of two words is that of the integers they stand for,
-- toward zero, modulo 2^64.
pub division_wraps : (a b : ℕ) → a < W → b < W → div_w a b ≡ word_of (quot_z (to_z w64 a) (to_z w64 b))
division_wraps = div_w_wraps

-- "-2^63 div -1 is -2^63": by the one division that folding and the machine share.
pub least_by_minus_one : divide least minus_one ≡ ok (int least)
unfolding divide div_w
least_by_minus_one = refl

-- It stops by zero and by nothing else.
pub stops_by_zero_alone : (a b : ℕ) (c : Cause) → divide a b ≡ stops c ↔ (b ≡ 0)
stops_by_zero_alone = divide_stops

-- "in the machine, without a stop": a step of x = div a b sets x to the quotient, whatever a and b hold, unless b holds 0;
pub division_goes_on :
    (ctx : Context) (m : Mach) (id x a b k n : ℕ) → m.store (nm a) ≡ some (int k) → m.store (nm b) ≡ some (int n) → n ≢ 0 →
    step ctx (gives id x 4 (a ∷ b ∷ [])) m ≡ goes (assign (tick m) (nm x) (int (div_w k n)))
division_goes_on = quotient_step

-- then it stops, by id and cause.
pub division_stops :
    (ctx : Context) (m : Mach) (id x a b k n : ℕ) → m.store (nm a) ≡ some (int k) → m.store (nm b) ≡ some (int n) → n ≡ 0 →
    step ctx (gives id x 4 (a ∷ b ∷ [])) m ≡ ends (at_division id by_zero) (tick m)
division_stops = zero_step

-- So where a run of an accepted function has stopped in a division, a division of that id stands there, and its divisor holds 0.
pub runs_stop_by_zero :
    (s : List ℕ) (r : Record Placed) → Accepted s r → (σ : Store) → TypedStore (function (plain r)) σ →
    (answers : List Answer) (n b p k : ℕ) (c : Cause) → (run (function (plain r)) σ answers n).place ≡ stopped (at_division k c) b p →
    DividesByZero (type_in (function (plain r)).types) (function (plain r)).blocks (run (function (plain r)) σ answers n).mach.store b p k
runs_stop_by_zero s r a σ h answers n = (runs_progress s r a σ h answers n).division

-- "simplify folds it when both are known", over what is known of each number;
pub known_division_folds :
    (f : ValNum → Option Val) (a b : ValNum) (m n : ℕ) → f a ≡ some (int m) → f b ≡ some (int n) → n ≢ 0 →
    simplify f (two Div a b) ≡ constant (int (div_w m n))
known_division_folds = quotient_simplified

-- "only those by zero still stay divisions".
pub known_division_stays :
    (f : ValNum → Option Val) (a b : ValNum) (m n : ℕ) → f a ≡ some (int m) → f b ≡ some (int n) →
    simplify f (two Div a b) ≡ two Div a b ↔ (n ≡ 0)
known_division_stays = stays_by_zero

-- So x = div a b, where the numbers of a and b are known and b is not 0, is rewritten as x = const of the quotient under the same id would be:
-- the same saves, the same instruction and the same state behind it.
pub division_as_constant :
    (N : ℕ) (t : NameIx → ℕ) (s : State) (id x a b m n : ℕ) (v w : ValNum) → s.env (nm a) ≡ some v → s.env (nm b) ≡ some w →
    known s v ≡ some (int m) → known s w ≡ some (int n) → n ≢ 0 → t (nm x) ≡ tint →
    instr_lvn N t s (gives id x 4 (a ∷ b ∷ [])) ≡ instr_lvn N t s (set id x 0 (div_w m n))
division_as_constant = quotient_is_constant

-- ---- phi (document 02, Point 5)
-- "dest, argument count 0 to 8, arguments, then one block number per argument. Arguments have dest's type.": so is each phi of an accepted
-- record; its block numbers are the record's, and it has no callee.
pub accepted_phis :
    (s : List ℕ) (r : Record Placed) → Accepted s r →
    Each (λ left b. Each (λ left i. i.code ≡ 39 → PhiOk (length (plain r).blocks) (type_in (function (plain r)).types) i) b.body)
    (plain r).blocks
accepted_phis s r a =
    let h = accept_typed limits s r a.end a.accepted in
    blocks_phis (length (plain r).names) (length (plain r).blocks) (type_in (function (plain r)).types) (plain r).blocks (good s r a).blocks
    h.typed

-- "It is rewritten as the Rust does, .. with arguments replaced": id, code, dest and block numbers stay as they are.
pub phi_is_kept :
    (N : ℕ) (t : NameIx → ℕ) (s : State) (i : Instr) → i.code ≡ 39 →
    (instr_lvn N t s i).instr ≡ rewrite_instr (gen_new_vals s i.args) i.args i
phi_is_kept = phi_kept

-- "a new number each time": wherever it stands in a block, the next one, above that of every name there, with dest as its home, and with no
-- value by which another could be found to be the same.
pub phi_has_new_number :
    (N : ℕ) (t : NameIx → ℕ) (A k : ℕ) (js : List Instr) (i : Instr) → i.code ≡ 39 →
    let s = behind N t (start A k) js in
    let seen = gen_new_vals s i.args in
    Numbers seen × NewNumber seen.next i.dest (instr_lvn N t s i).state
phi_has_new_number = phi_above

-- "In the machine it is an event over all its argument values, answered as codes 20 to 38 are."
pub phi_asks_the_world :
    (f : Function) (i : Instr) (m : Mach) → i.code ≡ 39 → (vs : List Val) → read_all m.store i.args ≡ some vs →
    step (plain_machine f) i m ≡ answered (type_in f.types i.dest) i (tick m) (event_of i vs) m.answers
phi_asks_the_world = phi_step

-- "A phi operand that is not set is an unset name read": it stops the run before there is an event.
pub phi_stops_unset :
    (f : Function) (i : Instr) (m : Mach) → i.code ≡ 39 → read_all m.store i.args ≡ none →
    step (plain_machine f) i m ≡ ends at_unset (tick m)
phi_stops_unset = phi_unset
