-- The state of the numbering of a block (`LvnState`), and its steps.
use Rattle.std.specs.Prelude.{ℕ, suc, cond, List, [], ◌∷◌, ltb}
use mathlib.Core.HLevel.{Discrete}
use Rattle.std.proofs.Math.Option.{Option, none, some, get_or}
use Rattle.std.proofs.Math.Decide.{ℕ_discrete}
use Rattle.arith.specs.Map.{upd}
use Rattle.arith.specs.Equal.{map_dec}
use Rattle.arith.specs.Value.{Val, int, float, literal, char, bool, pointer}
use Rattle.arith.specs.Operation.{Expr, constant, one, two}
use Rattle.record.specs.declared.NameIx.{NameIx}
use Rattle.record.specs.Record.{nm, NameIx-discrete}
use Rattle.numbering.specs.declared.ValNum.{ValNum}

abbrev pub vn : ℕ → ValNum
vn i = record { 0 = i }

abbrev pub ValNum-discrete : Discrete ValNum
ValNum-discrete x y = map_dec (λ p i. vn (p i)) (λ p i. (p i).0) (ℕ_discrete x.0 y.0)

-- env: the number of a name, where it has one. locs: the home of a number. vals: the value expression of a number, none where it is
-- new each time. next: the next number (`cur_val`). temps: K (`lvn_temp_num`)
pub record State : Type 0 where
  pub env : NameIx → Option ValNum
  pub locs : ValNum → NameIx
  pub vals : ValNum → Option (Expr ValNum)
  pub next : ℕ
  pub temps : ℕ

-- no name of a record or its rewriting: where a number that is not given yet has its home
abbrev pub nobody : NameIx
nobody = nm 65535

-- "Per block, arguments get 0 to A-1 and are their own homes." (`initialize_lvn`, `prototype`)
abbrev pub start_env : ℕ → NameIx → Option ValNum
start_env A x = cond (ltb x.0 A) (some (vn x.0)) none

unfoldable pub start : ℕ → ℕ → State
start A k =
    record {
      env = start_env A;
      locs = λ v. cond (ltb v.0 A) (nm v.0) nobody;
      vals = λ v. none;
      next = A;
      temps = k;
    }

-- x takes the next number, whose home it is; e: its value expression
unfoldable pub new_number : State → NameIx → Option (Expr ValNum) → State
new_number s x e =
    record {
      env = upd NameIx-discrete s.env x (some (vn s.next));
      locs = upd ValNum-discrete s.locs (vn s.next) x;
      vals = upd ValNum-discrete s.vals (vn s.next) e;
      next = suc s.next;
      temps = s.temps;
    }

-- x takes the number v (`update_env`)
unfoldable pub update_env : State → NameIx → ValNum → State
update_env s x v =
    record { env = upd NameIx-discrete s.env x (some v); locs = s.locs; vals = s.vals; next = s.next; temps = s.temps }

-- the number v moves to the home x, a made name
unfoldable pub rehome : State → ValNum → NameIx → State
rehome s v x =
    record {
      env = s.env;
      locs = upd ValNum-discrete s.locs v x;
      vals = s.vals;
      next = s.next;
      temps = suc s.temps;
    }

-- "number unseen arguments left to right" (`gen_new_vals`)
abbrev pub see_at : State → NameIx → Option ValNum → State
see_at s x none = new_number s x none
see_at s x (some v) = s

unfoldable pub see : State → NameIx → State
see s x = see_at s x (s.env x)

unfoldable pub gen_new_vals : State → List NameIx → State
gen_new_vals s [] = s
gen_new_vals s (x ∷ xs) = gen_new_vals (see s x) xs

-- of a name that has a number
unfoldable pub number_of : State → NameIx → ValNum
number_of s x = get_or (s.env x) (vn 0)

unfoldable pub home_of : State → NameIx → NameIx
home_of s x = s.locs (number_of s x)

-- "Constants known: int and bool."
unfoldable pub known_value : Val → Option Val
known_value (int w) = some (int w)
known_value (float b) = none
known_value (literal w) = none
known_value (char c) = none
known_value (bool b) = some (bool b)
known_value (pointer t b o) = none

unfoldable pub known_expr : Option (Expr ValNum) → Option Val
known_expr none = none
known_expr (some (constant v)) = known_value v
known_expr (some (one o a)) = none
known_expr (some (two o a b)) = none

-- the constant of a number, where it is known
unfoldable pub known : State → ValNum → Option Val
known s v = known_expr (s.vals v)
