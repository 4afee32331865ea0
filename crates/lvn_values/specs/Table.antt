-- The table of numbered values: of each number a head, which holds the operator and the operands, and a constant.
use Rattle.std.specs.Prelude.{ℕ, zero, suc, ◌+◌, ◌*◌, ◌/◌, ◌%◌, Bool, false, cond, ◌&&◌, ◌||◌, List, eqb, ltb, get_or, Option as Maybe, None, Some}
use Rattle.std.proofs.Math.Option.{Option, none, some}
use Rattle.arith.specs.Code.{code1, code2, one_of, two_of}
use Rattle.arith.specs.Value.{Val, int, float, literal, char, bool, pointer}
use Rattle.arith.specs.Operation.{Expr, constant, one, two}
use Rattle.numbering.specs.declared.ValNum.{ValNum}
use Rattle.numbering.specs.State.{State, vn}
use Rattle.numbering.specs.Number.{get_val_num}

-- ---- what stands in the table for an expression
abbrev pub packed : ℕ → ℕ → ℕ → ℕ
packed tag a b = tag * 0x1_0000_0000 + a * 0x1_0000 + b

-- the tags of constants stand behind those of the operators, which are their codes
abbrev pub int_tag : ℕ
int_tag = 15

abbrev pub literal_tag : ℕ
literal_tag = 16

abbrev pub bool_tag : ℕ
bool_tag = 17

-- 0 for those that are not numbered
unfoldable pub constant_tag : Val → ℕ
constant_tag (int w) = int_tag
constant_tag (float b) = 0
constant_tag (literal w) = literal_tag
constant_tag (char c) = 0
constant_tag (bool b) = bool_tag
constant_tag (pointer t b o) = 0

unfoldable pub constant_bits : Val → ℕ
constant_bits (int w) = w
constant_bits (float b) = 0
constant_bits (literal w) = w
constant_bits (char c) = 0
constant_bits (bool b) = cond b 1 0
constant_bits (pointer t b o) = 0

unfoldable pub head_of : Expr ValNum → ℕ
head_of (constant v) = packed (constant_tag v) 0 0
head_of (one o a) = packed (code1 o) a.0 0
head_of (two o a b) = packed (code2 o) a.0 b.0

unfoldable pub num_of : Expr ValNum → ℕ
num_of (constant v) = constant_bits v
num_of (one o a) = 0
num_of (two o a b) = 0

-- ---- the expression that stands there
abbrev pub either : {A : Type 0} → Option A → (A → Expr ValNum) → Option (Expr ValNum) → Option (Expr ValNum)
either none f other = other
either (some x) f other = some (f x)

abbrev pub constant_for : ℕ → ℕ → Option Val
constant_for tag bits =
    cond (eqb tag int_tag) (some (int bits))
    (cond (eqb tag literal_tag) (some (literal bits))
    (cond (eqb tag bool_tag) (some (bool (eqb bits 1))) none))

unfoldable pub unpacked : ℕ → ValNum → ValNum → ℕ → Option (Expr ValNum)
unpacked tag a b bits =
    either (two_of tag) (λ o. two o a b) (either (one_of tag) (λ o. one o a) (either (constant_for tag bits) constant none))

-- only what is written for an expression is read as one
abbrev pub exactly : ℕ → ℕ → Option (Expr ValNum) → Option (Expr ValNum)
exactly h n none = none
exactly h n (some e) = cond (eqb h (head_of e) && eqb n (num_of e)) (some e) none

unfoldable pub expr_at : ℕ → ℕ → Option (Expr ValNum)
expr_at h n = exactly h n (unpacked (h / 0x1_0000_0000) (vn (h / 0x1_0000 % 0x1_0000)) (vn (h % 0x1_0000)) n)

-- entries from count on are not seen, so the table needs no clearing between blocks
unfoldable pub vals_of : List ℕ → List ℕ → ℕ → ValNum → Option (Expr ValNum)
vals_of hs ns count v = cond (ltb v.0 count) (expr_at (get_or hs v.0 0) (get_or ns v.0 0)) none

-- whether x is one of the n numbers from i on
unfoldable pub holds : List ℕ → ℕ → ℕ → ℕ → Bool
holds l x i zero = false
holds l x i (suc n) = eqb (get_or l i 0) x || holds l x (i + 1) n

-- ---- answers
abbrev pub numbered_of : Maybe ValNum → Option ValNum
numbered_of None = none
numbered_of (Some v) = some v

-- the number of a value; one that is new each time has none
abbrev pub val_num_of : State → Option (Expr ValNum) → Option ValNum
val_num_of s none = none
val_num_of s (some e) = get_val_num s e
