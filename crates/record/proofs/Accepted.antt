-- What is read passes the tests: an accepted record is a good one. Each part by the laws of readers in Gives.
use Prim.Native.Nat.{ℕ, zero, suc}
use mathlib.Core.Path.{◌≡◌, refl, sym, ap, ◌∙◌, subst}
use mathlib.Core.List.{List, [], ◌∷◌, ◌++◌, map}
use mathlib.Core.Bool.{not}
use lib.ListN.{length, length-map}
use lib.Dec.{eqb}
use Rattle.record.specs.declared.Shape.{Shape}
use Rattle.record.specs.declared.Limits.{Limits}
use Rattle.record.specs.Record.{nm, no_lit, Placed, Record, plain_block, plain, most_args, most_blocks, id_bytes}
use Rattle.record.specs.Shape.{targets, shape_of}
use Rattle.record.specs.Tests.{any, at_most, below, version_test, names_test, type_test, text_length_test, text_test, saves_test, code_test, count_test, literal_test}
use Rattle.record.specs.Reader.{got}
use Rattle.record.specs.Read.{name_index, literal, arguments, operands, instr, block, name, names, length_field, end, contents, read}
use Rattle.record.specs.Good.{IndexOk, LitOk, ArgsOk, OperandsOk, InstrOk, BlockOk, NameOk, NamesOk, RecordOk}
use Rattle.record.proofs.Gives.{Gives, field_gives, text_gives, any_gives, give_gives, bind_gives, here_gives, there_gives, times_gives, each_map}

module _ {s : List ℕ} where
  -- ---- an instruction
  index_gives : (N : ℕ) → Gives s (name_index N) (IndexOk N)
  unfolding name_index
  index_gives N = bind_gives _ _ (field_gives 2 (below N)) (λ x h. give_gives (IndexOk N) h)

  literal_gives : Gives s literal LitOk
  unfolding literal
  literal_gives =
      bind_gives _ _ (field_gives 1 (at_most 3)) (λ kind h.
      bind_gives _ _ (field_gives 8 (literal_test kind)) (λ bits g.
      give_gives LitOk (record { kind = h; bits = g })))

  arguments_give : (N : ℕ) (sh : Shape) → Gives s (arguments N sh) (ArgsOk N sh)
  unfolding arguments
  arguments_give N sh =
      bind_gives _ _ (field_gives 1 (count_test sh)) (λ count h.
      bind_gives _ _ (times_gives _ (λ left. IndexOk N) (λ left. index_gives N) count) (λ xs g.
      give_gives (ArgsOk N sh) (record { count = ap (count_test sh) g.0 ∙ h; each = g.1 })))

  operands_give : (N B : ℕ) (sh : Shape) (id code : ℕ) → Gives s (operands N B sh id code) (λ i. (i.code ≡ code) × OperandsOk N B sh i)
  unfolding operands
  operands_give N B sh id code =
      bind_gives _ _ (there_gives sh.dest (nm 0) _ (index_gives N)) (λ dest a.
      bind_gives _ _ (there_gives sh.literal no_lit _ literal_gives) (λ lit b.
      bind_gives _ _ (there_gives (not sh.literal) [] _ (arguments_give N sh)) (λ args c.
      bind_gives _ _ (there_gives sh.callee 0 _ (field_gives 2 any)) (λ callee d.
      bind_gives _ _ (times_gives _ _ (λ left. field_gives 2 (below B)) (targets sh (length args))) (λ blocks e.
      give_gives (λ i. (i.code ≡ code) × OperandsOk N B sh i)
      (refl, record { dest = a; lit = b; args = c; callee = d; targets = sym e.0; blocks = e.1 }))))))

  instr_gives : (w N B left : ℕ) → Gives s (instr w N B (eqb left 0)) (λ i. InstrOk N B left i.it)
  unfolding instr
  instr_gives w N B left =
      here_gives _ (λ at.
      bind_gives _ _ (field_gives w any) (λ id a.
      bind_gives _ _ (field_gives 1 (code_test (eqb left 0))) (λ code b.
      bind_gives _ _ (operands_give N B (shape_of code) id code) (λ i c.
      give_gives (λ i. InstrOk N B left i.it)
      (record {
        code = ap (code_test (eqb left 0)) c.0 ∙ b;
        rest = subst (λ (k : ℕ). OperandsOk N B (shape_of k) i) (sym c.0) c.1;
      })))))

  -- ---- blocks, names, the record
  block_gives : (lim : Limits) (w N B : ℕ) → Gives s (block lim w N B) (λ b. BlockOk lim N B (plain_block b))
  unfolding block
  block_gives lim w N B =
      bind_gives _ _ (field_gives 2 (at_most lim.body)) (λ n a.
      bind_gives _ _ (field_gives 2 (saves_test lim.made)) (λ saves b.
      bind_gives _ _ (times_gives _ (λ left i. InstrOk N B left i.it) (λ left. instr_gives w N B left) n) (λ body c.
      give_gives (λ b. BlockOk lim N B (plain_block b))
      (record {
        size = ap (at_most lim.body) (length-map body (λ (i : Placed). i.it) ∙ c.0) ∙ a;
        saves = b;
        body = each_map (λ (i : Placed). i.it) (InstrOk N B) body c.1;
      }))))

  name_gives : (lim : Limits) (seen : List (List ℕ)) → Gives s (name lim seen) (NameOk lim seen)
  unfolding name
  name_gives lim seen =
      bind_gives _ _ (field_gives 1 type_test) (λ type a.
      bind_gives _ _ (field_gives 1 (text_length_test lim.text)) (λ n b.
      bind_gives _ _ (text_gives n (text_test lim.made seen)) (λ t c.
      give_gives (NameOk lim seen) (record { type = a; size = ap (text_length_test lim.text) c.0 ∙ b; text = c.1 }))))

  names_give : (lim : Limits) (seen : List (List ℕ)) (n : ℕ) → Gives s (names lim seen n) (λ xs. (length xs ≡ n) × NamesOk lim seen xs)
  unfolding names
  names_give lim seen zero = give_gives _ (refl, tt)
  names_give lim seen (suc n) =
      bind_gives _ _ (name_gives lim seen) (λ x a.
      bind_gives _ _ (names_give lim (seen ++ (x.text ∷ [])) n) (λ xs b.
      give_gives (λ xs. (length xs ≡ suc n) × NamesOk lim seen xs) (ap suc b.0, (a, b.1))))

  contents_give : (lim : Limits) → Gives s (contents lim) (λ r. RecordOk lim (plain r))
  unfolding contents
  contents_give lim =
      bind_gives _ _ (field_gives 1 version_test) (λ v a.
      bind_gives _ _ (field_gives 1 (at_most most_args)) (λ args b.
      bind_gives _ _ (field_gives 2 (names_test lim.names args)) (λ n c.
      bind_gives _ _ (names_give lim [] n) (λ xs d.
      bind_gives _ _ (field_gives 2 (at_most most_blocks)) (λ k e.
      bind_gives _ _ (times_gives _ (λ left b. BlockOk lim n k (plain_block b)) (λ left. block_gives lim (id_bytes v) n k) k) (λ bs f.
      let m : length (map plain_block bs) ≡ k = length-map bs plain_block ∙ f.0 in
      give_gives (λ r. RecordOk lim (plain r))
      (record {
        version = a;
        args = b;
        size = ap (names_test lim.names args) d.0 ∙ c;
        names = d.1;
        count = ap (at_most most_blocks) m ∙ e;
        blocks = rw (d.0, m) (each_map plain_block (λ left b. BlockOk lim n k b) bs f.1);
      })))))))

  read_gives : (lim : Limits) → Gives s (read lim) (λ r. RecordOk lim (plain r))
  unfolding read
  read_gives lim =
      bind_gives _ _ (any_gives length_field) (λ l a.
      bind_gives _ _ (contents_give lim) (λ r b.
      bind_gives _ _ (any_gives end) (λ e c.
      give_gives (λ r. RecordOk lim (plain r)) b)))

-- whatever is read is good
pub read_ok : (lim : Limits) (s : List ℕ) (r : Record Placed) (p : ℕ) → read lim s 0 ≡ got r p → RecordOk lim (plain r)
read_ok lim s r p e = (read_gives {s = s} lim).gives 0 r p e
