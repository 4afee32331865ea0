-- The state of the numbering of a block: numbers in use are given, their homes are names of the input or made ones, and their constants
-- satisfy P. Every step keeps it.
use Prim.Native.Nat.{ℕ, suc, ◌+◌, ◌<◌, ◌≤◌}
use mathlib.Core.Path.{◌≡◌, refl, ap}
use mathlib.Core.Bool.{Bool, true, false}
use mathlib.Core.List.{List, [], ◌∷◌}
use mathlib.Core.Option.{Option, none, some}
use native.Mathlib.Omega.{arith}
use lib.Dec.{ltb}
use borrow.Author.Tests.{ltb-true, ltb-false, lt-ltb}
use Rattle.arith.specs.Value.{Val}
use Rattle.arith.specs.Operation.{Expr}
use Rattle.arith.proofs.Map.{upd_ind}
use Rattle.record.specs.declared.NameIx.{NameIx}
use Rattle.record.specs.Record.{nm, Instr}
use Rattle.record.specs.Good.{Each}
use Rattle.numbering.specs.declared.ValNum.{ValNum}
use Rattle.numbering.specs.State.{vn, State, ValNum-discrete, start, new_number, update_env, rehome, see_at, see, gen_new_vals, number_of, home_of}
use Rattle.numbering.specs.Number.{Saved, save}
use Rattle.numbering.proofs.Overwritten.{Overwritten, kept, moved}
use Rattle.numbering.proofs.Given.{Numbers, start_numbers, new_numbers, taken_numbers, Seen, number_below}
use Rattle.numbering.proofs.Simplified.{ValueOk}

-- N: how many names the input has
pub record Homed (P : Val → Type 0) (N : ℕ) (s : State) : Type 0 where
  pub numbers : Numbers s
  pub homes : (v : ValNum) → v.0 < s.next → (s.locs v).0 < N + s.temps
  pub values : (v : ValNum) → ValueOk P (s.vals v)

-- ---- the start
pub start_homed : (P : Val → Type 0) (N A k : ℕ) → A ≤ N → Homed P N (start A k)
unfolding start
start_homed P N A k h =
    record {
      numbers = start_numbers A k;
      homes = λ v l. rw (lt-ltb v.0 A l) (omega arith);
      values = λ v. tt;
    }

-- ---- new numbers
other_below : (n : ℕ) (v : ValNum) (c : Bool) → ltb v.0 n ≡ c → v.0 < suc n → (v ≡ vn n → ⊥) → v.0 < n
other_below n v true q b p = ltb-true v.0 n q
other_below n v false q b p =
    let l : n ≤ v.0 = ltb-false v.0 n q in
    let e : v.0 ≡ n = omega arith in
    absurd (p (ap vn e))

pub new_number_homed :
    (P : Val → Type 0) (N : ℕ) (s : State) (x : NameIx) (e : Option (Expr ValNum)) →
    Homed P N s →
    x.0 < N →
    ValueOk P e →
    Homed P N (new_number s x e)
unfolding new_number
new_number_homed P N s x e h l k =
    record {
      numbers = new_numbers s x e h.numbers;
      homes = λ v b.
          upd_ind ValNum-discrete s.locs (vn s.next) x v (λ (y : NameIx). y.0 < N + s.temps)
          (λ p. omega arith)
          (λ p. h.homes v (other_below s.next v (ltb v.0 s.next) refl b p));
      values = λ v. upd_ind ValNum-discrete s.vals (vn s.next) e v (ValueOk P) (λ p. k) (λ p. h.values v);
    }

pub update_env_homed :
    (P : Val → Type 0) (N : ℕ) (s : State) (x : NameIx) (v : ValNum) → Homed P N s → v.0 < s.next → Homed P N (update_env s x v)
unfolding update_env
update_env_homed P N s x v h l =
    record { numbers = taken_numbers s x v h.numbers l; homes = h.homes; values = h.values }

-- ---- seen names
pub home_below : (P : Val → Type 0) (N : ℕ) (s : State) (x : NameIx) → Homed P N s → Seen s x → (home_of s x).0 < N + s.temps
unfolding home_of
home_below P N s x h p = h.homes (number_of s x) (number_below s x h.numbers p)

see_at_homed : (P : Val → Type 0) (N : ℕ) (s : State) (x : NameIx) (o : Option ValNum) → Homed P N s → x.0 < N → Homed P N (see_at s x o)
see_at_homed P N s x none h l = new_number_homed P N s x none h l tt
see_at_homed P N s x (some v) h l = h

pub gen_homed :
    (P : Val → Type 0) (N : ℕ) (s : State) (xs : List NameIx) → Homed P N s → Each (λ left x. x.0 < N) xs → Homed P N (gen_new_vals s xs)
unfolding gen_new_vals see
gen_homed P N s [] h l = h
gen_homed P N s (x ∷ xs) h l = gen_homed P N (see s x) xs (see_at_homed P N s x (s.env x) h l.0) l.1

-- ---- the save
pub overwritten_homed :
    (P : Val → Type 0) (N : ℕ) (s : State) (i : Instr) (q : Saved) → Overwritten N s i q → Homed P N s → Homed P N q.state
unfolding save rehome
overwritten_homed P N s i q kept h = h
overwritten_homed P N s i q (moved v) h =
    record {
      numbers = h.numbers;
      homes = λ w b.
          upd_ind ValNum-discrete s.locs v (nm (N + s.temps)) w (λ (y : NameIx). y.0 < N + suc s.temps)
          (λ p. omega arith)
          (λ p. let l : (s.locs w).0 < N + s.temps = h.homes w b in omega arith);
      values = h.values;
    }
