-- What is read from bytes fits its fields. Each part by the laws of readers in Gives.
use Prim.Native.Nat.{ℕ, zero, suc, ◌<◌, ◌^◌}
use mathlib.Core.Path.{◌≡◌}
use mathlib.Core.List.{List, [], ◌∷◌, ◌++◌}
use mathlib.Core.Bool.{Bool}
use native.Mathlib.Omega.{arith}
use Rattle.record.specs.declared.Shape.{Shape}
use Rattle.record.specs.declared.Limits.{Limits}
use Rattle.record.specs.Record.{Bytes, no_lit, Placed, Record, plain_block, plain, id_bytes}
use Rattle.record.specs.Shape.{shape_of}
use Rattle.record.specs.Tests.{any, type_test, text_test, saves_test, literal_test}
use Rattle.record.specs.Reader.{got}
use Rattle.record.specs.Read.{literal, operands, instr, block, name, names, length_field, end, contents, read}
use Rattle.record.specs.Good.{Each}
use Rattle.record.specs.Ranged.{RangedInstr, RangedBlock, RangedName, Ranged}
use Rattle.record.proofs.Gives.{Gives, field_ranged, text_ranged, any_gives, give_gives, bind_gives, here_gives, either_gives, times_gives, each_map}

module _ {s : List ℕ} (h : Bytes s) where
  literal_ranged : Gives s literal (λ l. l.bits < 256 ^ 8)
  unfolding literal
  literal_ranged =
      bind_gives _ _ (any_gives _) (λ kind a.
      bind_gives _ _ (field_ranged h 8 (literal_test kind)) (λ bits b.
      give_gives (λ l. l.bits < 256 ^ 8) b))

  operands_ranged :
      (w N B : ℕ) (sh : Shape) (id code : ℕ) →
      id < 256 ^ w →
      Gives s (operands N B sh id code) (RangedInstr w)
  unfolding operands
  operands_ranged w N B sh id code k =
      bind_gives _ _ (any_gives _) (λ dest a.
      bind_gives _ _ (either_gives sh.literal no_lit (λ l. l.bits < 256 ^ 8) (omega arith) literal_ranged) (λ lit b.
      bind_gives _ _ (any_gives _) (λ args c.
      bind_gives _ _ (either_gives sh.callee 0 (λ x. x < 256 ^ 2) (omega arith) (field_ranged h 2 any)) (λ callee d.
      bind_gives _ _ (any_gives _) (λ blocks e.
      give_gives (RangedInstr w) (record { id = k; bits = b; callee = d }))))))

  instr_ranged : (w N B : ℕ) (last : Bool) → Gives s (instr w N B last) (λ i. RangedInstr w i.it)
  unfolding instr
  instr_ranged w N B last =
      here_gives _ (λ at.
      bind_gives _ _ (field_ranged h w any) (λ id a.
      bind_gives _ _ (any_gives _) (λ code b.
      bind_gives _ _ (operands_ranged w N B (shape_of code) id code a) (λ i c.
      give_gives (λ i. RangedInstr w i.it) c))))

  block_ranged : (lim : Limits) (w N B : ℕ) → Gives s (block lim w N B) (λ b. RangedBlock w (plain_block b))
  unfolding block
  block_ranged lim w N B =
      bind_gives _ _ (any_gives _) (λ n a.
      bind_gives _ _ (field_ranged h 2 (saves_test lim.made)) (λ saves b.
      bind_gives _ _ (times_gives _ (λ left i. RangedInstr w i.it) (λ left. instr_ranged w N B _) n) (λ body c.
      give_gives (λ b. RangedBlock w (plain_block b))
      (record { saves = b; body = each_map (λ (i : Placed). i.it) (λ left. RangedInstr w) body c.1 }))))

  name_ranged : (lim : Limits) (seen : List (List ℕ)) → Gives s (name lim seen) RangedName
  unfolding name
  name_ranged lim seen =
      bind_gives _ _ (field_ranged h 1 type_test) (λ type a.
      bind_gives _ _ (any_gives _) (λ n b.
      bind_gives _ _ (text_ranged h n (text_test lim.made seen)) (λ t c.
      give_gives RangedName (record { type = a; text = c }))))

  names_ranged : (lim : Limits) (seen : List (List ℕ)) (n : ℕ) → Gives s (names lim seen n) (Each (λ left x. RangedName x))
  unfolding names
  names_ranged lim seen zero = give_gives _ tt
  names_ranged lim seen (suc n) =
      bind_gives _ _ (name_ranged lim seen) (λ x a.
      bind_gives _ _ (names_ranged lim (seen ++ (x.text ∷ [])) n) (λ xs b.
      give_gives (Each (λ left x. RangedName x)) (a, b)))

  contents_ranged : (lim : Limits) → Gives s (contents lim) (λ r. Ranged (plain r))
  unfolding contents
  contents_ranged lim =
      bind_gives _ _ (any_gives _) (λ v a.
      bind_gives _ _ (any_gives _) (λ args b.
      bind_gives _ _ (any_gives _) (λ n c.
      bind_gives _ _ (names_ranged lim [] n) (λ xs d.
      bind_gives _ _ (any_gives _) (λ k e.
      let w = id_bytes v in
      bind_gives _ _ (times_gives _ (λ left b. RangedBlock w (plain_block b)) (λ left. block_ranged lim w n k) k) (λ bs f.
      give_gives (λ r. Ranged (plain r))
      (record { names = d; blocks = each_map plain_block (λ left. RangedBlock w) bs f.1 })))))))

  read_gives_ranged : (lim : Limits) → Gives s (read lim) (λ r. Ranged (plain r))
  unfolding read
  read_gives_ranged lim =
      bind_gives _ _ (any_gives length_field) (λ l a.
      bind_gives _ _ (contents_ranged lim) (λ r b.
      bind_gives _ _ (any_gives end) (λ e c.
      give_gives (λ r. Ranged (plain r)) b)))

pub read_ranged : (lim : Limits) (s : List ℕ) → Bytes s → (r : Record Placed) (p : ℕ) → read lim s 0 ≡ got r p → Ranged (plain r)
read_ranged lim s h r p e = (read_gives_ranged {s = s} h lim).gives 0 r p e
