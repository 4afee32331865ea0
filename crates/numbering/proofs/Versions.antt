-- Document 02, Point 7: "the rewriting keeps the version it was given", and of a record that was widened or narrowed it is the rewriting of the
-- input in the other version.
use Prim.Native.Nat.{ℕ, suc, ◌≤◌}
use mathlib.Core.Path.{◌≡◌, refl, ap, subst}
use mathlib.Core.List.{List, [], ◌∷◌, ◌++◌}
use mathlib.Core.Bool.{false}
use lib.ListN.{length, take, drop}
use lib.Dec.{ltb}
use borrow.Author.Tests.{le-ltb}
use Rattle.std.specs.Prelude.{Ok}
use Rattle.record.specs.declared.NameIx.{NameIx}
use Rattle.record.specs.Record.{Bytes, Instr, Placed, Name, Record, plain, limits}
use Rattle.record.specs.Reader.{got}
use Rattle.record.specs.Tests.{version_test}
use Rattle.record.specs.Typing.{accept}
use Rattle.record.specs.Write.{bytes}
use Rattle.record.specs.Versions.{in_version, converted_bytes, convert, convert_leaves}
use Rattle.record.proofs.Versions.{accepted_again, what_was_written}
use Rattle.numbering.specs.Made.{made_name, made_names, made, rewriting}
use Rattle.numbering.specs.Rewrite.{totals, rewritten_bytes, rewrite_result, rewrite_output, rewrite, rewrite_leaves}

made_names_in : (v : ℕ) (r : Record Instr) (k : ℕ) (xs : List NameIx) → made_names (in_version v r) k xs ≡ made_names r k xs
unfolding made_names made_name
made_names_in v r k [] = refl
made_names_in v r k (x ∷ xs) = ap (λ (ns : List Name). made_name r k x ∷ ns) (made_names_in v r (suc k) xs)

pub rewriting_in : (v : ℕ) (r : Record Instr) → rewriting (in_version v r) ≡ in_version v (rewriting r)
unfolding rewriting
rewriting_in v r =
    ap (λ (ns : List Name). record { version = v; args = r.args; names = r.names ++ ns; blocks = (rewriting r).blocks })
    (made_names_in v r 0 (made r))

pub keeps_version : (r : Record Instr) → (rewriting r).version ≡ r.version
unfolding rewriting
keeps_version r = refl

-- what is written of the rewriting of r, in version v
abbrev pub rewritten_in : ℕ → Record Placed → List ℕ
rewritten_in v r = bytes (in_version v (rewriting (plain r)))

-- what rewrite does with an input s where there is room: new, with k saves, is written over the front of the output
abbrev pub Rewrites : List ℕ → List ℕ → ℕ → List ℕ → Type 0
Rewrites s new k out = (rewrite s out ≡ Ok (totals (length new) k)) × (rewrite_leaves s out ≡ new ++ drop (length new) out)

-- whatever is accepted is rewritten so
accepted_rewrites :
    (s out : List ℕ) (r : Record Placed) (p : ℕ) → accept limits s ≡ got r p → length (rewritten_bytes r) ≤ length out →
    Rewrites s (rewritten_bytes r) (length (made (plain r))) out
unfolding rewrite rewrite_leaves rewrite_result rewrite_output
accepted_rewrites s out r p a l =
    let n = length (rewritten_bytes r) in
    let t : ltb (length out) n ≡ false = le-ltb (length out) n l in
    (rw (a, t), rw (a, t))

-- q: the record without its places
rewrites_as :
    (s out : List ℕ) (r : Record Placed) (p : ℕ) (q : Record Instr) → accept limits s ≡ got r p → plain r ≡ q →
    length (bytes (rewriting q)) ≤ length out → Rewrites s (bytes (rewriting q)) (length (made q)) out
unfolding rewritten_bytes
rewrites_as s out r p q a e =
    subst (λ (z : Record Instr). length (bytes (rewriting z)) ≤ length out → Rewrites s (bytes (rewriting z)) (length (made z)) out) e
    (accepted_rewrites s out r p a)

module _ (s : List ℕ) (h : Bytes s) (r : Record Placed) (p : ℕ) (a : accept limits s ≡ got r p) (v : ℕ) (ok : version_test v ≡ Ok tt) where
  -- the rewriting of s in version v is the rewriting of s, in version v, with as many saves
  pub converted_then_rewritten :
      (one two : List ℕ) (n : ℕ) → convert v s one ≡ Ok n → length (rewritten_in v r) ≤ length two →
      Rewrites (take n (convert_leaves v s one)) (rewritten_in v r) (length (made (plain r))) two
  converted_then_rewritten one two n e l =
      let w = what_was_written s h r p a v ok one n e in
      let b = accepted_again s h r p a v ok w.0 in
      let q = in_version v (plain r) in
      let same : bytes (rewriting q) ≡ rewritten_in v r = ap bytes (rewriting_in v (plain r)) in
      let room : length (bytes (rewriting q)) ≤ length two = rw same l in
      rw w.1
      (subst (λ (t : List ℕ). Rewrites (converted_bytes v r) t (length (made (plain r))) two) same
      (rewrites_as (converted_bytes v r) two b.back (length (converted_bytes v r)) q b.accepts b.same room))
