-- What an operation gives by what its operands hold: the operator applied to them, or unset where one is not set or is of another type.
use Prim.Native.Nat.{ℕ, ◌<◌, ◌≤◌}
use mathlib.Core.Path.{◌≡◌, refl, sym, ap, ◌∙◌}
use mathlib.Core.Logic.{◌≢◌, ◌⊎◌, inl, inr}
use mathlib.Core.Bool.{Bool, not}
use mathlib.Core.Option.{Option, none, some}
use native.Mathlib.Omega.{arith}
use Rattle.std.proofs.Common.{Some, Ok, Err}
use Rattle.std.specs.Option.{ok_or}
use Rattle.std.proofs.lemmas.Result.{err_from_is_err_and}
use Rattle.arith.specs.declared.One.TheVariants.{Not, Id}
use Rattle.arith.specs.declared.Two.{Two}
use Rattle.arith.specs.declared.Two.TheVariants.{Add, Sub, Mul, Div, Eq, Lt, Gt, Le, Ge, And, Or, PtrAdd}
use Rattle.arith.specs.Word.{add_w}
use Rattle.arith.specs.Value.{Val, int, bool, pointer}
use Rattle.arith.specs.Operation.{Result, ok, unset, as_int, as_bool, with_one, with_both, shift, apply1, apply2, one, two, eval}
use Rattle.record.specs.declared.NameIx.{NameIx}
use Rattle.machine.specs.Machine.{Store}
use Rattle.running.specs.House.{held, nothing_byte}
use Rattle.engine_cells.specs.declared.Cell.{Cell}
use Rattle.engine_cells.specs.Cells.{cell_holds, held_as}
use Rattle.engine_cells.proofs.Store.{by_pointer, held_none, held_some}
use Rattle.engine_cells.proofs.ByKind.{no_shift, was_none, is_int, is_bool}
use Rattle.engine_pure.specs.declared.Stop.{Stop}
use Rattle.engine_pure.specs.declared.Stop.TheVariants.{Unset}
use Rattle.engine_pure.specs.Works.{Told, told}
use Rattle.engine_pure.proofs.Works.{told_ok, told_unset, read_some, read_none}

-- ---- which operators take ints, and which bools
-- both operands are of one type: `to` takes a value for one of that type, which `of` makes a value
abbrev pub Takes : {A : Type 0} → (Val → Option A) → (A → Val) → Two → Type 0
Takes to of o = (x y : Val) → apply2 o x y ≡ with_both (to x) (to y) (λ a b. apply2 o (of a) (of b))

pub take_ints : (o : Two) → o ≢ And → o ≢ Or → o ≢ PtrAdd → Takes as_int int o
unfolding apply2 as_int with_both
take_ints Add n m p x y = refl
take_ints Sub n m p x y = refl
take_ints Mul n m p x y = refl
take_ints Div n m p x y = refl
take_ints Eq n m p x y = refl
take_ints Lt n m p x y = refl
take_ints Gt n m p x y = refl
take_ints Le n m p x y = refl
take_ints Ge n m p x y = refl
take_ints And n m p x y = absurd (n refl)
take_ints Or n m p x y = absurd (m refl)
take_ints PtrAdd n m p x y = absurd (p refl)

pub take_bools : (o : Two) → (o ≡ And) ⊎ (o ≡ Or) → Takes as_bool bool o
unfolding apply2 as_bool with_both
take_bools o (inl e) x y = rw e refl
take_bools o (inr e) x y = rw e refl

-- ---- what two operands give
-- it is unset if it is so of any operands that are set
unset_both :
    {A B : Type 0} (x : Option A) (y : Option B) (f : A → B → Result) →
    ((a : A) (b : B) → x ≡ some a → y ≡ some b → f a b ≡ unset) →
    with_both x y f ≡ unset
unfolding with_both
unset_both none y f h = refl
unset_both (some a) none f h = refl
unset_both (some a) (some b) f h = h a b refl refl

no_first : {A B : Type 0} (f : A → B → Result) (x : Option A) (y : Option B) → x ≡ none → with_both x y f ≡ unset
unfolding with_both
no_first f x y e = rw e

no_second : {A B : Type 0} (f : A → B → Result) (x : Option A) (y : Option B) → y ≡ none → with_both x y f ≡ unset
unfolding with_both
no_second f none y e = refl
no_second f (some a) y e = rw e

unset_one : {A : Type 0} (x : Option A) (f : A → Result) → ((a : A) → x ≡ some a → f a ≡ unset) → with_one x f ≡ unset
unfolding with_one
unset_one none f h = refl
unset_one (some a) f h = h a refl

-- ---- the operators of two names; k: why an operand was not read
module _ (σ : Store) (x y : NameIx) (o : Two) where
  both_set : (u v : Val) → σ x ≡ some u → σ y ≡ some v → eval σ (two o x y) ≡ apply2 o u v
  unfolding eval with_both
  both_set u v e f = rw (e, f)

  both_unset : (k : Stop) → k ≡ Unset → ((u v : Val) → σ x ≡ some u → σ y ≡ some v → apply2 o u v ≡ unset) → Err k ≡ told (eval σ (two o x y))
  unfolding eval
  both_unset k e h = told_unset e (unset_both (σ x) (σ y) (apply2 o) h)

  -- of one type: `to` takes a value of it, and `of` makes one
  module _ {A : Type 0} (to : Val → Option A) (of : A → Val) where
    first_lacks : Takes to of o → (k : Stop) → Err k ≡ ok_or (held_as to (σ x)) Unset → Err k ≡ told (eval σ (two o x y))
    first_lacks takes k e =
        let (a, b) = read_none _ _ _ e in
        both_unset k b (λ u v q r. takes u v ∙ no_first _ (to u) (to v) (was_none to (σ x) u a q))

    second_lacks : Takes to of o → (k : Stop) → Err k ≡ ok_or (held_as to (σ y)) Unset → Err k ≡ told (eval σ (two o x y))
    second_lacks takes k e =
        let (a, b) = read_none _ _ _ e in
        both_unset k b (λ u v q r. takes u v ∙ no_second _ (to u) (to v) (was_none to (σ y) v a r))

    both_read :
        ((p : Option Val) (a : A) → Some a ≡ held_as to p → p ≡ some (of a)) →
        (a b : A) (z : Told) → Ok a ≡ ok_or (held_as to (σ x)) Unset → Ok b ≡ ok_or (held_as to (σ y)) Unset →
        z ≡ told (apply2 o (of a) (of b)) → z ≡ told (eval σ (two o x y))
    both_read is a b z e f h = h ∙ ap told (sym (both_set (of a) (of b) (is (σ x) a (read_some _ _ _ e)) (is (σ y) b (read_some _ _ _ f))))

  module _ (n : o ≢ And) (m : o ≢ Or) (p : o ≢ PtrAdd) where
    pub first_no_int : (k : Stop) → Err k ≡ ok_or (held_as as_int (σ x)) Unset → Err k ≡ told (eval σ (two o x y))
    first_no_int = first_lacks as_int int (take_ints o n m p)

    pub second_no_int : (k : Stop) → Err k ≡ ok_or (held_as as_int (σ y)) Unset → Err k ≡ told (eval σ (two o x y))
    second_no_int = second_lacks as_int int (take_ints o n m p)

  pub both_int :
      (a b : ℕ) (z : Told) → Ok a ≡ ok_or (held_as as_int (σ x)) Unset → Ok b ≡ ok_or (held_as as_int (σ y)) Unset →
      z ≡ told (apply2 o (int a) (int b)) → z ≡ told (eval σ (two o x y))
  both_int = both_read as_int int is_int

  module _ (h : (o ≡ And) ⊎ (o ≡ Or)) where
    pub first_no_bool : (k : Stop) → Err k ≡ ok_or (held_as as_bool (σ x)) Unset → Err k ≡ told (eval σ (two o x y))
    first_no_bool = first_lacks as_bool bool (take_bools o h)

    pub second_no_bool : (k : Stop) → Err k ≡ ok_or (held_as as_bool (σ y)) Unset → Err k ≡ told (eval σ (two o x y))
    second_no_bool = second_lacks as_bool bool (take_bools o h)

  pub both_bool :
      (a b : Bool) (z : Told) → Ok a ≡ ok_or (held_as as_bool (σ x)) Unset → Ok b ≡ ok_or (held_as as_bool (σ y)) Unset →
      z ≡ told (apply2 o (bool a) (bool b)) → z ≡ told (eval σ (two o x y))
  both_bool = both_read as_bool bool is_bool

-- ptradd; p: what x holds
module _ (σ : Store) (x y : NameIx) where
  pub no_offset : (k : Stop) → Err k ≡ ok_or (held_as as_int (σ y)) Unset → Err k ≡ told (eval σ (two PtrAdd x y))
  unfolding apply2 with_one
  no_offset k e =
      let (a, b) = read_none _ _ _ e in
      both_unset σ x y PtrAdd k b (λ u v q r. rw (was_none as_int (σ y) v a r))

  pub moved :
      (a : ℕ) (p : Option Val) (z : Told) → Ok a ≡ ok_or (held_as as_int (σ y)) Unset → σ x ≡ p →
      z ≡ told (with_one p (λ v. shift v a)) → z ≡ told (eval σ (two PtrAdd x y))
  unfolding eval apply2 as_int with_both with_one
  moved a p z e f h = h ∙ ap told (sym (rw (is_int (σ y) a (read_some _ _ _ e), f) (by p)))
    where
      by : (u : Option Val) → with_both u (some (int a)) (apply2 PtrAdd) ≡ with_one u (λ v. shift v a)
      by none = refl
      by (some v) = refl

-- a cell that is moved by k
module _ (c : Cell) (k : ℕ) where
  abbrev moved_cell : Result
  moved_cell = with_one (cell_holds c) (λ v. shift v k)

  pub no_pointer : (c.kind ≤ held) ⊎ ((held < c.kind) × (c.kind ≡ nothing_byte)) → moved_cell ≡ unset
  unfolding with_one
  no_pointer (inl h) =
      let n : c.kind ≢ nothing_byte = λ g. absurd (omega (arith, g, h)) in
      ap (λ u. with_one u (λ v. shift v k)) (held_some c.kind c.word c.offset n) ∙ no_shift c.word c.offset c.kind k h
  no_pointer (inr h) = ap (λ u. with_one u (λ v. shift v k)) (held_none c.kind c.word c.offset h.1)

  -- o: its offset then
  module _ (o : ℕ) (p : held < c.kind) (n : c.kind ≢ nothing_byte) (s : o ≡ add_w c.offset k) where
    holds : (m : ℕ) → cell_holds (record { kind = c.kind; word = c.word; offset = m }) ≡ some (pointer c.kind c.word m)
    holds m = held_some c.kind c.word m n ∙ ap some (by_pointer c.kind c.word m p)

    pub pointer_moved : Ok (cell_holds (record { kind = c.kind; word = c.word; offset = o })) ≡ told moved_cell
    unfolding with_one shift
    pointer_moved =
        ap Ok (holds o) ∙
        told_ok (ap (λ u. with_one u (λ v. shift v k)) (holds c.offset) ∙ ap (λ (m : ℕ). ok (pointer c.kind c.word m)) (sym s))

-- ---- the operators of one name
module _ (σ : Store) (x : NameIx) where
  -- not
  pub negated : (b : Bool) (u : Option Val) → Ok b ≡ ok_or (held_as as_bool (σ x)) Unset → u ≡ some (bool (not b)) → Ok u ≡ told (eval σ (one Not x))
  unfolding eval with_one apply1 as_bool
  negated b u e f = ap Ok f ∙ told_ok (rw (is_bool (σ x) b (read_some _ _ _ e)) refl)

  pub negate_other : (k : Stop) → Err k ≡ ok_or (held_as as_bool (σ x)) Unset → Err k ≡ told (eval σ (one Not x))
  unfolding eval with_one apply1
  negate_other k e =
      let (a, b) = read_none _ _ _ e in
      told_unset b (unset_one (σ x) (apply1 Not) (λ u p. rw (was_none as_bool (σ x) u a p)))

  -- id; c: the cell of x
  module _ (c : Cell) (e : σ x ≡ cell_holds c) where
    pub copied : c.kind ≢ nothing_byte → Ok (cell_holds c) ≡ told (eval σ (one Id x))
    unfolding eval with_one apply1
    copied n =
        let s = held_some c.kind c.word c.offset n in
        ap Ok s ∙ told_ok (rw (e ∙ s))

    pub copy_nothing : c.kind ≡ nothing_byte → Err Unset ≡ told (eval σ (one Id x))
    unfolding eval with_one
    copy_nothing n = told_unset refl (rw (e ∙ held_none c.kind c.word c.offset n))

-- ---- for the check: an operand that was not read, and two ints that were
pub ruleset of_one = (negate_other, err_from_is_err_and)

pub ruleset of_two = (first_no_int, second_no_int, both_int, first_no_bool, second_no_bool, no_offset, err_from_is_err_and)
