-- Start here for wider ids (document 02, Point 7): what is proved of widening, narrowing and records of either version, each theorem with its
-- sentence. Widening and narrowing are defined in the crate record, specs/Versions.antt; this file puts together what the proofs/Versions.antt of
-- record, numbering and running prove. Every other theorem on records is over the width of an id, and so of both versions: demands 1 to 3
-- and the sizes in Theorems.antt, running an accession in TheoremsRunning.antt.
use Prim.Native.Nat.{ℕ, ◌*◌, ◌≤◌}
use mathlib.Core.Path.{◌≡◌, ap}
use mathlib.Core.Logic.{◌↔◌}
use mathlib.Core.List.{List, ◌++◌}
use lib.ListN.{length, take, drop}
use Rattle.std.specs.Prelude.{Ok, Err}
use Rattle.record.specs.declared.ConvertError.{ConvertError}
use Rattle.record.specs.declared.ConvertError.TheVariants.{Refused, Wide}
use Rattle.record.specs.declared.Fault.{Fault}
use Rattle.record.specs.Record.{Bytes, Placed, Record, Function, plain, function, id_bytes}
use Rattle.record.specs.Tests.{version_test}
use Rattle.record.specs.Answer.{checked}
use Rattle.record.specs.Versions.{in_version, converted_bytes, instructions, convert, convert_leaves, widen, widen_leaves, narrow, narrow_leaves}
use Rattle.record.proofs.Ids.{Fit, FirstWide, none_wide, ids}
use Rattle.record.proofs.Versions as versions
use Rattle.record.proofs.Versions.{Converts, Back}
use Rattle.numbering.specs.Made.{made, rewriting}
use Rattle.numbering.proofs.Versions.{rewritten_in, Rewrites, keeps_version, rewriting_in, converted_then_rewritten}
use Rattle.machine.specs.Machine.{Store, Answer, run}
use Rattle.running.specs.declared.Ending.{Ending}
use Rattle.running.specs.declared.RunError.TheVariants.{Unfit}
use Rattle.running.specs.Engine.{done, engine}
use Rattle.running.proofs.Versions.{SameRun, same_run, same_unfit}
use Rattle.pairing.specs.Contract.{Accepted}

-- ---- refusals
-- "after check's refusals": either is refused as check refuses, with its reason and offset, whatever the output.
pub refused_as_checked : (v : ℕ) (s out : List ℕ) (f : Fault) → (convert v s out ≡ Err (Refused f)) ↔ (checked s ≡ Err f)
refused_as_checked = versions.refused_exactly

-- "nothing is written": whatever it is refused for, the output stays as it was lent.
pub refusals_write_nothing :
    (v : ℕ) (s out : List ℕ) (e : ConvertError) → convert v s out ≡ Err e → convert_leaves v s out ≡ out
refusals_write_nothing = versions.untouched

-- 15 is of narrowing alone.
pub widening_is_never_15 : (s out : List ℕ) → Bytes s → (o : ℕ) → widen s out ≡ Err (Wide o) → ⊥
widening_is_never_15 = versions.widen_never_wide

module _ (s : List ℕ) (r : Record Placed) (a : Accepted s r) where
  -- "narrowing meets an id of 2^32 or more, at the first such instruction's offset": it is 15 exactly then, whatever the room, and the ids of the
  -- instructions before that one are less.
  pub narrowing_meets_wide_id : (out : List ℕ) (o : ℕ) → (narrow s out ≡ Err (Wide o)) ↔ FirstWide (id_bytes 1) (instructions r) o
  narrowing_meets_wide_id out o = versions.wide_exactly s a.bytes r a.end a.accepted 1 o out

  -- Where each id is below 2^32 it is narrowed: with room, the record in version 1 is written, and else it is 9 with the bytes needed.
  pub narrowing_is_done : Fit (id_bytes 1) (ids (plain r)) → Converts 1 s (converted_bytes 1 r)
  narrowing_is_done f = versions.converts s a.bytes r a.end a.accepted 1 (none_wide (id_bytes 1) r f)

  -- Every accepted record is widened so.
  pub widening_is_done : Converts 2 s (converted_bytes 2 r)
  widening_is_done = versions.widens s a.bytes r a.end a.accepted

  -- Twice as many bytes as the input has are always enough to widen it,
  pub twice_is_enough : length (converted_bytes 2 r) ≤ 2 * length s
  twice_is_enough = versions.widened_size s a.bytes r a.end a.accepted

  -- as many to narrow it.
  pub as_many_is_enough : length (converted_bytes 1 r) ≤ length s
  as_many_is_enough = versions.narrowed_size s a.bytes r a.end a.accepted

  -- "a record already in the wanted version comes out unchanged": so it needs its own length.
  pub comes_out_unchanged : (v : ℕ) → r.version ≡ v → Converts v s s
  comes_out_unchanged = versions.unchanged s a.bytes r a.end a.accepted

  -- ---- what is written
  module _ (v : ℕ) (ok : version_test v ≡ Ok tt) where
    -- "no id is cut": what is written is bytes, which check accepts as the same record in that version, with the same ids.
    pub is_accepted_again : Fit (id_bytes v) (ids (plain r)) → Back v r
    is_accepted_again f = versions.accepted_again s a.bytes r a.end a.accepted v ok (none_wide (id_bytes v) r f)

    -- Its function is the same, and so is each run of it.
    pub runs_are_the_same :
        (f : Fit (id_bytes v) (ids (plain r))) (σ : Store) (answers : List Answer) (n : ℕ) →
        run (function (plain (is_accepted_again f).back)) σ answers n ≡ run (function (plain r)) σ answers n
    runs_are_the_same f σ answers n = ap (λ (g : Function). run g σ answers n) (is_accepted_again f).same_function

    -- "runs included": calls of the engine with both, from one store and list of answers, are one run: the same events, each with its id as
    -- wide as in the record, the same final store, steps and ending;
    pub calls_are_the_same :
        Fit (id_bytes v) (ids (plain r)) → (store list : List ℕ) (limit : ℕ) (events left events₂ left₂ : List ℕ) →
        (e l k : ℕ) (how : Ending) (e₂ l₂ k₂ : ℕ) (how₂ : Ending) →
        engine s store list limit events left ≡ done e l k how →
        engine (converted_bytes v r) store list limit events₂ left₂ ≡ done e₂ l₂ k₂ how₂ →
        SameRun s (converted_bytes v r) store list limit (id_bytes r.version) (id_bytes v) events left events₂ left₂ e l k how e₂ l₂ k₂ how₂
    calls_are_the_same f = same_run s a.bytes r a.end a.accepted v ok (none_wide (id_bytes v) r f)

    -- 13 is of both or of none.
    pub calls_are_unfit_alike :
        Fit (id_bytes v) (ids (plain r)) → (store list : List ℕ) (limit : ℕ) (events left events₂ left₂ : List ℕ) →
        (engine s store list limit events left ≡ Err Unfit) ↔ (engine (converted_bytes v r) store list limit events₂ left₂ ≡ Err Unfit)
    calls_are_unfit_alike f = same_unfit s a.bytes r a.end a.accepted v ok (none_wide (id_bytes v) r f)

    -- What was written, rewritten, is the rewriting of the input in that version, with as many saves.
    pub converting_then_rewriting :
        (one two : List ℕ) (n : ℕ) → convert v s one ≡ Ok n → length (rewritten_in v r) ≤ length two →
        Rewrites (take n (convert_leaves v s one)) (rewritten_in v r) (length (made (plain r))) two
    converting_then_rewriting = converted_then_rewritten s a.bytes r a.end a.accepted v ok

  -- "Narrowing a widened version 1 record yields its original bytes":
  pub narrowing_undoes_widening :
      r.version ≡ 1 → (one two : List ℕ) (n : ℕ) → widen s one ≡ Ok n → length s ≤ length two →
      let wider = take n (widen_leaves s one) in
      (narrow wider two ≡ Ok (length s)) × (narrow_leaves wider two ≡ s ++ drop (length s) two)
  narrowing_undoes_widening = versions.narrow_widened s a.bytes r a.end a.accepted

  -- and a version 2 record that was narrowed, widened, is what it was.
  pub widening_undoes_narrowing :
      r.version ≡ 2 → (one two : List ℕ) (n : ℕ) → narrow s one ≡ Ok n → length s ≤ length two →
      let narrower = take n (narrow_leaves s one) in
      (widen narrower two ≡ Ok (length s)) × (widen_leaves narrower two ≡ s ++ drop (length s) two)
  widening_undoes_narrowing = versions.widen_narrowed s a.bytes r a.end a.accepted

-- ---- rewriting
-- "the rewriting keeps the version it was given";
pub rewriting_keeps_version : (r : Record Placed) → (rewriting (plain r)).version ≡ r.version
rewriting_keeps_version r = keeps_version (plain r)

-- and is, but for it, the same in each.
pub rewriting_in_either_version : (v : ℕ) (r : Record Placed) → rewriting (in_version v (plain r)) ≡ in_version v (rewriting (plain r))
rewriting_in_either_version v r = rewriting_in v (plain r)
