-- What the operands of an instruction are by their place, what each rule asks of them, and that each code's rule fits its shape.
use Prim.Native.Nat.{ℕ, zero, suc, ◌+◌, ◌*◌, ◌<◌, ◌≤◌}
use mathlib.Core.Path.{◌≡◌, refl, sym, ap, ◌∙◌, subst}
use mathlib.Core.List.{List, map}
use mathlib.Core.Option.{Option, none, some}
use mathlib.Core.Bool.{Bool, true, false, ◌&&◌, and_assoc, and-false}
use native.Mathlib.Omega.{arith}
use Rattle.std.specs.Bool.{beq}
use Rattle.std.specs.Cmp.{booleans_Decides}
use native.Mathlib.Decide.{dec_lt}
use lib.ListN.{get_or, replicate}
use denote.Ref.{Bor}
use lib.Dec.{eqb, eqb-suc-zero, eqb-zero-suc, eqb-suc-suc}
use Rattle.arith.specs.Value.{tint, tbool, is_pointer}
use Rattle.std.specs.List.{list_all, range_with_len}
use Rattle.record.specs.declared.NameIx.{NameIx}
use Rattle.record.specs.declared.Shape.{Shape}
use Rattle.record.specs.Record.{nm, type_in}
use Rattle.record.specs.Shape.{shape_of}
use Rattle.record.specs.Text.{same_bytes}
use Rattle.record.specs.Reader.{num_at}
use Rattle.record.specs.Typing as typing
use Rattle.record.specs.Typing.{free, fits_dest, copies, shifts, allocates, loads, joins, stores, frees, branches, takes, rules, literal_fits, points_to, each_is, obeys, well_typed}
use Rattle.record.specs.Decode.{items, behind, two_on, index_from, operands_from, instr_from}
use Rattle.record.proofs.Tests.{and_left, and_right}
use Rattle.record.proofs.Decode.{item_at, item_past, behind_two}
use Rattle.record.proofs.Form.{row_beyond, all_below_at}
use Rattle.check_rules.specs.declared.operands.Operands.{Operands}
use Rattle.check_rules.specs.declared.Rule.{Rule}
use Rattle.check_rules.specs.Rules.{rule, code_rule, args_from, Kept}

-- ---- types
-- an argument's type, by its number; n: the count
module _ (types s : List ℕ) (at k n r : ℕ) (en : n ≡ num_at s at 1) where
  pub arg_there : k < n → r ≡ type_in types (index_from s (at + 1 + 2 * k)) → r ≡ type_in types (get_or (args_from s at) k (nm 0))
  unfolding args_from
  arg_there h e =
      let f : get_or (args_from s at) k (nm 0) ≡ index_from s (behind two_on (at + 1) k) =
      item_at (index_from s) two_on (nm 0) k (num_at s at 1) (at + 1) (subst (λ (m : ℕ). k < m) en h) in
      e ∙ sym (ap (type_in types) (f ∙ ap (index_from s) (behind_two (at + 1) k)))

  pub arg_past : n ≤ k → r ≡ type_in types (nm 0) → r ≡ type_in types (get_or (args_from s at) k (nm 0))
  unfolding args_from
  arg_past h e =
      e ∙ sym (ap (type_in types) (item_past (index_from s) two_on (nm 0) k (num_at s at 1) (at + 1) (subst (λ (m : ℕ). m ≤ k) en h)))

-- ---- the operands of an instruction
module _ (sh : Shape) (s : List ℕ) (at id code : ℕ) where
  dest_is : sh.dest ≡ true → (operands_from sh s at id code).dest ≡ index_from s at
  unfolding operands_from
  dest_is d = rw d

  kind_is : sh.dest ≡ true → sh.literal ≡ true → (operands_from sh s at id code).lit.kind ≡ num_at s (at + 2) 1
  unfolding operands_from
  kind_is d l = rw (d, l)

  args_valued : sh.dest ≡ true → sh.literal ≡ false → (operands_from sh s at id code).args ≡ args_from s (at + 2)
  unfolding operands_from args_from
  args_valued d l = rw (d, l)

  args_alone : sh.dest ≡ false → sh.literal ≡ false → (operands_from sh s at id code).args ≡ args_from s at
  unfolding operands_from args_from
  args_alone d l = rw (d, l)

-- ---- arguments of one type
module _ (f : NameIx → ℕ) (one : ℕ → NameIx) (next : ℕ → ℕ) (t : ℕ) where
  -- n of them and no more
  each_same :
      (c n p : ℕ) →
      same_bytes (map f (items one next p c)) (replicate n t) ≡ (eqb c n && each_is t (map f (items one next p n)))
  unfolding items same_bytes each_is
  each_same zero zero p = refl
  each_same zero (suc n) p = rw (eqb-zero-suc n)
  each_same (suc c) zero p = rw (eqb-suc-zero c)
  each_same (suc c) (suc n) p =
      rw (eqb-suc-suc c n)
      (ap (λ (b : Bool). eqb (f (one p)) t && b) (each_same c n (next p))
      ∙ swapped (eqb (f (one p)) t) (eqb c n) (each_is t (map f (items one next (next p) n))))
    where
      swapped : (a b d : Bool) → (a && (b && d)) ≡ (b && (a && d))
      swapped true b d = refl
      swapped false b d = sym (and-false b)

-- n of them, one every two places, by their numbers from a on
pub each_all :
    (f : NameIx → ℕ) (one : ℕ → NameIx) (t at a n : ℕ) →
    list_all (λ k. eqb (f (one (at + 2 * k))) t) (range_with_len a n) ≡ each_is t (map f (items one two_on (at + 2 * a) n))
unfolding items each_is
each_all f one t at a zero = refl
each_all f one t at a (suc n) =
    let place : at + 2 * (a + 1) ≡ at + 2 * a + 2 = omega arith in
    ap (λ (b : Bool). eqb (f (one (at + 2 * a))) t && b)
    (each_all f one t at (a + 1) n ∙ ap (λ p. each_is t (map f (items one two_on p n))) place)

-- ---- the rules; t: the type of dest, x and y: those of the arguments
module _ (o : Operands) (t x y : ℕ) (r : Bool) where
  abbrev s : List ℕ
  s = o.bytes.now

  abbrev types : List ℕ
  types = o.types.now

  abbrev at : ℕ
  at = o.at

  abbrev Dest : Type 0
  Dest = t ≡ type_in types (index_from s at)

  abbrev First : ℕ → Type 0
  First p = x ≡ type_in types (get_or (args_from s p) 0 (nm 0))

  abbrev Second : ℕ → Type 0
  Second p = y ≡ type_in types (get_or (args_from s p) 1 (nm 0))

  pub kept_fits : (kind : ℕ) → kind ≡ num_at s (at + 2) 1 → Dest → r ≡ literal_fits kind t → Kept r fits_dest true true o
  unfolding obeys
  kept_fits kind ek et h sh id code d l = rw (dest_is sh s at id code d, kind_is sh s at id code d l, ← ek, ← et) h

  pub kept_copies : Dest → First (at + 2) → r ≡ eqb t x → Kept r copies true false o
  unfolding obeys
  kept_copies et ex h sh id code d l = rw (dest_is sh s at id code d, args_valued sh s at id code d l, ← et, ← ex) h

  pub kept_shifts :
      Dest → First (at + 2) → Second (at + 2) → r ≡ (is_pointer x && (eqb y tint && eqb t x)) →
      Kept r shifts true false o
  unfolding obeys
  kept_shifts et ex ey h sh id code d l = rw (dest_is sh s at id code d, args_valued sh s at id code d l, ← et, ← ex, ← ey) h

  pub kept_allocates : Dest → First (at + 2) → r ≡ (eqb x tint && is_pointer t) → Kept r allocates true false o
  unfolding obeys
  kept_allocates et ex h sh id code d l = rw (dest_is sh s at id code d, args_valued sh s at id code d l, ← et, ← ex) h

  pub kept_loads : Dest → First (at + 2) → r ≡ points_to x t → Kept r loads true false o
  unfolding obeys
  kept_loads et ex h sh id code d l = rw (dest_is sh s at id code d, args_valued sh s at id code d l, ← et, ← ex) h

  pub kept_stores : First at → Second at → r ≡ points_to x y → Kept r stores false false o
  unfolding obeys
  kept_stores ex ey h sh id code d l = rw (args_alone sh s at id code d l, ← ex, ← ey) h

  pub kept_frees : First at → r ≡ is_pointer x → Kept r frees false false o
  unfolding obeys
  kept_frees ex h sh id code d l = rw (args_alone sh s at id code d l, ← ex) h

  pub kept_branches : First at → r ≡ eqb x tbool → Kept r branches false false o
  unfolding obeys
  kept_branches ex h sh id code d l = rw (args_alone sh s at id code d l, ← ex) h

  pub kept_joins :
      (n : ℕ) → n ≡ num_at s (at + 2) 1 → Dest → r ≡ each_is t (map (type_in types) (items (index_from s) two_on (at + 2 + 1) n)) →
      Kept r joins true false o
  unfolding obeys args_from
  kept_joins n en et h sh id code d l = rw (dest_is sh s at id code d, args_valued sh s at id code d l, ← et, ← en) h

  -- c: the count of the arguments
  pub kept_takes :
      (n a d c : ℕ) (each : Bool) →
      c ≡ num_at s (at + 2) 1 → Dest → each ≡ each_is a (map (type_in types) (items (index_from s) two_on (at + 2 + 1) n)) →
      r ≡ (eqb c n && (each && eqb t d)) → Kept r (takes (replicate n a) d) true false o
  unfolding obeys args_from
  kept_takes n a d c each ec et ee h sh id code i l =
      let same = each_same (type_in types) (index_from s) two_on a (num_at s (at + 2) 1) n (at + 2 + 1) in
      rw (dest_is sh s at id code i, args_valued sh s at id code i l, same, ← et, ← ec, ← ee, and_assoc (eqb c n) each (eqb t d)) h

-- ---- a rule and the shape of its code
-- whether a code of this rule has a dest and a literal, where that matters
abbrev pub parts : typing.Rule → Option (Bool × Bool)
parts free = none
parts fits_dest = some (true, true)
parts copies = some (true, false)
parts shifts = some (true, false)
parts allocates = some (true, false)
parts loads = some (true, false)
parts joins = some (true, false)
parts stores = some (false, false)
parts frees = some (false, false)
parts branches = some (false, false)
parts (takes xs r) = some (true, false)

abbrev as_told : Option (Bool × Bool) → Shape → Bool
as_told none sh = true
as_told (some p) sh = beq p.0 sh.dest && beq p.1 sh.literal

-- by the tables: past 71 every rule is free
rule_told : (c : ℕ) → as_told (parts (code_rule c)) (shape_of c) ≡ true
unfolding shape_of code_rule
rule_told c = go (dec_lt c 72)
  where
    go : Dec (c < 72) → as_told (parts (code_rule c)) (shape_of c) ≡ true
    go (yes h) = all_below_at 72 (λ c. as_told (parts (code_rule c)) (shape_of c)) refl c h
    go (no h) = ap (λ R. as_told (parts R) (shape_of c)) (row_beyond free rules 71 c refl (omega arith))

-- c: the code of the instruction at a place; found, the same as U: the rule that the code found for it
module _
    (s types : Bor (List ℕ)) (w at c : ℕ) (r : Bool) (ec : c ≡ num_at s.now (at + w) 1)
    (found U : Rule) (ef : rule found ≡ code_rule c) (same : found ≡ U) where
  asked : rule U ≡ code_rule c
  asked = ap rule (sym same) ∙ ef

  by_code :
      obeys (rule U) (type_in types.now) (operands_from (shape_of c) s.now (at + w + 1) (num_at s.now at w) c)
      ≡ well_typed (type_in types.now) (instr_from w s.now at)
  unfolding well_typed code_rule instr_from operands_from
  by_code =
      (λ i. obeys (asked i) (type_in types.now) (operands_from (shape_of c) s.now (at + w + 1) (num_at s.now at w) c))
      ∙ ap (λ (n : ℕ). obeys (code_rule n) (type_in types.now) (operands_from (shape_of n) s.now (at + w + 1) (num_at s.now at w) n)) ec

  pub typed_kept :
      (dest literal : Bool) → parts (rule U) ≡ some (dest, literal) →
      ((sh : Shape) (id code : ℕ) → sh.dest ≡ dest → sh.literal ≡ literal →
      r ≡ obeys (rule U) (type_in types.now) (operands_from sh s.now (at + w + 1) id code)) →
      r ≡ well_typed (type_in types.now) (instr_from w s.now at)
  typed_kept dest literal p k =
      let told : (beq dest (shape_of c).dest && beq literal (shape_of c).literal) ≡ true =
      ap (λ (o : Option (Bool × Bool)). as_told o (shape_of c)) (sym (ap parts (sym asked) ∙ p)) ∙ rule_told c in
      let d = sym ((booleans_Decides dest (shape_of c).dest).0 (and_left _ _ told)) in
      let l = sym ((booleans_Decides literal (shape_of c).literal).0 (and_right (beq dest (shape_of c).dest) _ told)) in
      k (shape_of c) (num_at s.now at w) c d l ∙ by_code

  pub typed_free : rule U ≡ free → true ≡ well_typed (type_in types.now) (instr_from w s.now at)
  unfolding obeys
  typed_free e = sym (ap (λ R. obeys R (type_in types.now) (operands_from (shape_of c) s.now (at + w + 1) (num_at s.now at w) c)) e) ∙ by_code
