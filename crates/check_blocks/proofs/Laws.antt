-- A part of an instruction that is there or not.
use Prim.Native.Nat.{ℕ}
use mathlib.Core.Path.{◌≡◌, refl, ◌∙◌}
use mathlib.Core.List.{List}
use mathlib.Core.Bool.{Bool, true, false}
use Rattle.std.specs.Prelude.{Result, Ok}
use Rattle.record.specs.declared.Fault.{Fault}
use Rattle.record.specs.Reader.{Reader, if_there}
use Rattle.record.specs.Answer.{verdict}
use Rattle.record.proofs.Following.{there_yes, there_no}

pub part_is :
    {A : Type 0} (b : Bool) (d : A) (r : Reader A) (s : List ℕ) (at : ℕ) (v : Result ℕ Fault) →
    (b ≡ true → v ≡ verdict (r s at)) → (b ≡ false → v ≡ Ok at) → v ≡ verdict (if_there b d r s at)
part_is {A} b d r s at v there past = go b refl
  where
    go : (c : Bool) → b ≡ c → v ≡ verdict (if_there b d r s at)
    go true e = there e ∙ there_yes b d r s at e
    go false e = past e ∙ there_no b d r s at e
