-- Dest takes the number of its value: the cases, and that the number is not 65535.
use Prim.Native.Nat.{ℕ, zero, suc, ◌+◌, ◌<◌, ◌≤◌}
use mathlib.Core.Path.{◌≡◌, refl, ap, ◌∙◌}
use mathlib.Core.Logic.{◌≢◌}
use mathlib.Core.Bool.{Bool, true, false, cond}
use mathlib.Core.Option.{Option, none, some}
use native.Mathlib.Omega.{arith}
use Rattle.arith.proofs.Clash.{clash}
use Rattle.arith.specs.declared.One.TheVariants.{Not, Id}
use Rattle.arith.specs.Operation.{Expr, constant, one, two}
use Rattle.record.specs.declared.NameIx.{NameIx}
use Rattle.numbering.specs.declared.ValNum.{ValNum}
use Rattle.numbering.specs.State.{vn, State, new_number, update_env}
use Rattle.numbering.specs.Number.{same_expr, find, get_val_num}
use Rattle.lvn_values.specs.Table.{val_num_of}
use Rattle.lvn_state.specs.View.{settled, settled_at}

module _ (s : State) (x : NameIx) where
  pub settled_known : (e : Option (Expr ValNum)) (v : ValNum) → val_num_of s e ≡ some v → settled s x e ≡ update_env s x v
  unfolding settled settled_at
  settled_known none v p = clash (cc)
  settled_known (some e) v p = ap (settled_at s x e) p

  pub settled_new : (e : Option (Expr ValNum)) → val_num_of s e ≡ none → settled s x e ≡ new_number s x e
  unfolding settled settled_at
  settled_new none p = refl
  settled_new (some e) p = ap (settled_at s x e) p

-- ---- a number that is found is below the next one
found_below :
    (vals : ValNum → Option (Expr ValNum)) (e : Expr ValNum) (n i : ℕ) (v : ValNum) → find vals e i n ≡ some v → v.0 < i + n
unfolding find
found_below vals e zero i v p = clash (cc)
found_below vals e (suc n) i v p = by (same_expr (vals (vn i)) (some e)) p (found_below vals e n (suc i) v)
  where
    by :
        (b : Bool) → cond b (some (vn i)) (find vals e (suc i) n) ≡ some v →
        (find vals e (suc i) n ≡ some v → v.0 < suc i + n) →
        v.0 < i + suc n
    by true q ih = let j : vn i ≡ v = cc in let k : i ≡ v.0 = ap (λ (u : ValNum). u.0) j in omega arith
    by false q ih = let k : v.0 < suc i + n = ih q in omega arith

-- 65535 is no number: one that is found is below the next, and an id's is its operand
pub number_stands :
    (s : State) (e : Option (Expr ValNum)) (v : ValNum) →
    s.next ≤ 65535 →
    ((a : ValNum) → e ≡ some (one Id a) → a.0 ≢ 65535) →
    val_num_of s e ≡ some v →
    v.0 ≢ 65535
unfolding get_val_num
number_stands s none v n h p = clash (cc)
number_stands s (some (constant c)) v n h p = let k : v.0 < 0 + s.next = found_below s.vals (constant c) s.next 0 v p in
    λ q. omega arith
number_stands s (some (one Not a)) v n h p = let k : v.0 < 0 + s.next = found_below s.vals (one Not a) s.next 0 v p in
    λ q. omega arith
number_stands s (some (one Id a)) v n h p = let j : a ≡ v = cc in λ q. h a refl (ap (λ (u : ValNum). u.0) j ∙ q)
number_stands s (some (two o a b)) v n h p = let k : v.0 < 0 + s.next = found_below s.vals (two o a b) s.next 0 v p in
    λ q. omega arith
