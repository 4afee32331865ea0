-- What check's answer tells of what is read of an input.
use Prim.Native.Nat.{ℕ}
use mathlib.Core.Path.{◌≡◌, refl, ap, ◌∙◌}
use mathlib.Core.List.{List}
use Rattle.arith.proofs.Clash.{clash}
use Rattle.record.specs.declared.Fault.{Fault}
use Rattle.std.specs.Prelude.{Ok, Err}
use Rattle.record.specs.Record.{Placed, Record, limits}
use Rattle.record.specs.Reader.{Res, got, fault}
use Rattle.record.specs.Typing.{accept}
use Rattle.record.specs.Answer.{fault_at, checked_as, checked}
use Rattle.record.specs.Decode.{record_from}
use Rattle.record.proofs.Typed.{accept_typed}
use Rattle.record.proofs.Again.{record_again}

-- accepted: the record that stands in the bytes
pub record As (s : List ℕ) : Type 0 where
  pub behind : ℕ
  pub got : accept limits s ≡ got (record_from s) behind

pub accepted_as : (s : List ℕ) → checked s ≡ Ok tt → As s
unfolding checked
accepted_as s h = go (accept limits s) refl h
  where
    go : (v : Res (Record Placed)) → accept limits s ≡ v → checked_as v ≡ Ok tt → As s
    go (got r p) e h =
        record {
          behind = p;
          got = e ∙ ap (λ (x : Record Placed). got x p) (record_again s r p (accept_typed limits s r p e).reads);
        }
    go (fault k o) e h = clash (cc)

-- refused: the same fault
pub refused_as : (s : List ℕ) (f : Fault) → checked s ≡ Err f → accept limits s ≡ fault f.refusal f.offset
unfolding checked
refused_as s f = go (accept limits s)
  where
    go : (v : Res (Record Placed)) → checked_as v ≡ Err f → v ≡ fault f.refusal f.offset
    go (got r p) e = clash (cc)
    go (fault k o) e = let g : fault_at k o ≡ f = cc in ap (λ (h : Fault). fault h.refusal h.offset) g
