-- What is read is what stands there: the value and the end of every part that passes, by its bytes alone.
-- The property `Decodes` of readers, combinator by combinator, and then for each reader.
use Prim.Native.Nat.{ℕ, zero, suc, ◌+◌, ◌-◌, ◌*◌, ◌<◌, ◌≤◌}
use mathlib.Core.Path.{◌≡◌, refl, sym, ap, ◌∙◌}
use mathlib.Core.List.{List, [], ◌∷◌, ◌++◌}
use mathlib.Core.Bool.{Bool, true, false, cond, not}
use native.Mathlib.Omega.{arith}
use native.Mathlib.Nat.{add-zero}
use lib.ListN.{length, get_or, take, drop}
use lib.Dec.{ltb, eqb}
use Rattle.arith.proofs.Clash.{clash}
use Rattle.record.specs.declared.NameIx.{NameIx}
use Rattle.record.specs.declared.Shape.{Shape}
use Rattle.record.specs.declared.Limits.{Limits}
use Rattle.record.specs.declared.Refusal.TheVariants.{Length}
use Rattle.record.specs.Reader.{Test}
use Rattle.record.specs.Record.{nm, no_lit, most_args, most_blocks, id_bytes}
use Rattle.record.specs.Shape.{targets, shape_of}
use Rattle.record.specs.Reader.{got, Reader, refuse, give, ◌>>=◌, here, num_at, field, text, if_there, times}
use Rattle.record.specs.Tests.{any, at_most, below, length_test, version_test, names_test, type_test, text_length_test, text_test, saves_test, code_test, count_test, literal_test}
use Rattle.record.specs.Read.{name_index, literal, arguments, operands, instr, block, name, names, length_field, end, contents, read}
use Rattle.record.specs.Decode.{items, behind, two_on, index_from, number_from, count_from, count_at, operands_end, operands_from, instr_from, placed_from, instr_end, body_from, block_from, block_end, name_from, name_end, names_count, names_end, blocks_end, record_from}
use Rattle.record.proofs.Fields.{field_tells, text_tells, bind_got}

-- ---- items in a row, by their number
module _ {A : Type 0} (one : ℕ → A) (next : ℕ → ℕ) (d : A) where
  pub item_at : (k n p : ℕ) → k < n → get_or (items one next p n) k d ≡ one (behind next p k)
  unfolding items behind
  item_at k zero p h = absurd (omega arith)
  item_at zero (suc n) p h = refl
  item_at (suc k) (suc n) p h = item_at k n (next p) (omega arith)

  pub item_past : (k n p : ℕ) → n ≤ k → get_or (items one next p n) k d ≡ d
  unfolding items
  item_past k zero p h = refl
  item_past zero (suc n) p h = absurd (omega arith)
  item_past (suc k) (suc n) p h = item_past k n (next p) (omega arith)

pub length_items : {A : Type 0} (one : ℕ → A) (next : ℕ → ℕ) (n at : ℕ) → length (items one next at n) ≡ n
unfolding items
length_items one next zero at = refl
length_items one next (suc n) at = ap suc (length_items one next n (next at))

-- of items that are there or not
pub length_there :
    {A : Type 0} (one : ℕ → A) (next : ℕ → ℕ) (b : Bool) (n at : ℕ) → length (cond b (items one next at n) []) ≡ cond b n 0
length_there one next true n at = length_items one next n at
length_there one next false n at = refl

pub behind_two : (p k : ℕ) → behind two_on p k ≡ p + 2 * k
unfolding behind
behind_two p zero = sym (add-zero p)
behind_two p (suc k) = behind_two (p + 2) k ∙ omega arith

-- the place behind n arguments and their count, which are there or not
pub behind_args : (b : Bool) (p k n : ℕ) → n ≡ cond b k 0 → cond b (p + (1 + 2 * n)) p ≡ cond b (behind two_on (p + 1) k) p
behind_args true p k n e = let d : p + (1 + 2 * n) ≡ p + 1 + 2 * k = omega arith in d ∙ sym (behind_two (p + 1) k)
behind_args false p k n e = refl

-- if the reader passes, it gives x and ends at p
pub record Decodes {A : Type 0} (r : Reader A) (s : List ℕ) (at : ℕ) (x : A) (p : ℕ) : Type 0 where
  pub told : (y : A) (q : ℕ) → r s at ≡ got y q → (y ≡ x) × (q ≡ p)

-- ---- combinators
pub field_decodes : (w : ℕ) (test : ℕ → Test) (s : List ℕ) (at : ℕ) → Decodes (field w test) s at (num_at s at w) (at + w)
field_decodes w test s at = record { told = λ y q e. let t = field_tells w test s at y q e in (t.value, t.ends) }

text_decodes :
    (n : ℕ) (test : List ℕ → Test) (s : List ℕ) (at : ℕ) →
    Decodes (text n test) s at (take n (drop at s)) (at + n)
text_decodes n test s at = record { told = λ y q e. let t = text_tells n test s at y q e in (t.value, t.ends) }

pub give_decodes : {A : Type 0} {x : A} {s : List ℕ} {at : ℕ} → Decodes (give x) s at x at
unfolding give
give_decodes = record { told = λ y q e. (cc, cc) }

pub bind_decodes :
    {A B : Type 0} {r : Reader A} (f : A → Reader B) {s : List ℕ} {at : ℕ} {x : A} {p : ℕ} {y : B} {q : ℕ} →
    Decodes r s at x p →
    Decodes (f x) s p y q →
    Decodes (r >>= f) s at y q
bind_decodes {A} {B} {r} f {s} {at} {x} {p} {y} {q} d e =
    record {
      told = λ z o h.
          let k = bind_got r f s at z o h in
          let t : (k.value ≡ x) × (k.place ≡ p) = d.told k.value k.place k.first in
          e.told z o (sym (λ i. f (t.0 i) s (t.1 i)) ∙ k.second);
    }

here_decodes :
    {B : Type 0} (f : ℕ → Reader B) {s : List ℕ} {at : ℕ} {y : B} {q : ℕ} →
    Decodes (f at) s at y q →
    Decodes (here >>= f) s at y q
unfolding ◌>>=◌ here
here_decodes f h = record { told = λ y q e. h.told y q e }

there_decodes :
    {A : Type 0} (b : Bool) (d : A) {r : Reader A} {s : List ℕ} {at : ℕ} {x : A} {p : ℕ} →
    Decodes r s at x p →
    Decodes (if_there b d r) s at (cond b x d) (cond b p at)
unfolding if_there
there_decodes true d h = h
there_decodes false d h = give_decodes

pub times_decode :
    {A : Type 0} (r : ℕ → Reader A) (s : List ℕ) (one : ℕ → A) (next : ℕ → ℕ) →
    ((left at : ℕ) → Decodes (r left) s at (one at) (next at)) →
    (n at : ℕ) →
    Decodes (times n r) s at (items one next at n) (behind next at n)
unfolding times items behind
times_decode r s one next h zero at = give_decodes
times_decode r s one next h (suc n) at =
    bind_decodes _ (h n at) (bind_decodes _ (times_decode r s one next h n (next at)) give_decodes)

-- ---- an instruction
index_decodes : (N : ℕ) (s : List ℕ) (at : ℕ) → Decodes (name_index N) s at (index_from s at) (two_on at)
unfolding name_index index_from
index_decodes N s at = bind_decodes _ (field_decodes 2 (below N) s at) give_decodes

literal_decodes : (s : List ℕ) (at : ℕ) → Decodes literal s at (record { kind = num_at s at 1; bits = num_at s (at + 1) 8 }) (at + 1 + 8)
unfolding literal
literal_decodes s at =
    bind_decodes _ (field_decodes 1 (at_most 3) s at) (bind_decodes _ (field_decodes 8 (literal_test _) s (at + 1)) give_decodes)

arguments_decode :
    (N : ℕ) (sh : Shape) (s : List ℕ) (at : ℕ) →
    Decodes (arguments N sh) s at (items (index_from s) two_on (at + 1) (num_at s at 1)) (behind two_on (at + 1) (num_at s at 1))
unfolding arguments
arguments_decode N sh s at =
    bind_decodes _ (field_decodes 1 (count_test sh) s at)
    (bind_decodes _ (times_decode _ s (index_from s) two_on (λ left at. index_decodes N s at) (num_at s at 1) (at + 1)) give_decodes)

-- as many arguments as their count says, where they are there
pub args_counted :
    (N : ℕ) (sh : Shape) (s : List ℕ) (at : ℕ) (xs : List NameIx) (p : ℕ) →
    if_there (not sh.literal) [] (arguments N sh) s at ≡ got xs p →
    length xs ≡ count_from sh s at
args_counted N sh s at xs p e =
    let b = not sh.literal in
    ap length ((there_decodes b [] (arguments_decode N sh s at)).told xs p e).0 ∙ length_there (index_from s) two_on b (num_at s at 1) (at + 1)

operands_decode :
    (N B : ℕ) (sh : Shape) (id code : ℕ) (s : List ℕ) (at : ℕ) →
    Decodes (operands N B sh id code) s at (operands_from sh s at id code) (operands_end sh s at)
unfolding operands operands_from operands_end number_from
operands_decode N B sh id code s at =
    let c = count_at sh s at in
    bind_decodes _ (there_decodes sh.dest (nm 0) (index_decodes N s _))
    (bind_decodes _ (there_decodes sh.literal no_lit (literal_decodes s _))
    (bind_decodes _ (there_decodes (not sh.literal) [] (arguments_decode N sh s _))
    (bind_decodes _ (there_decodes sh.callee 0 (field_decodes 2 any s _))
    (rw (length_there (index_from s) two_on (not sh.literal) (num_at s c 1) (c + 1))
    (bind_decodes _
    (times_decode _ s (number_from s) two_on (λ left at. field_decodes 2 (below B) s at) (targets sh (count_from sh s c)) _)
    give_decodes)))))

pub instr_decodes :
    (w N B : ℕ) (last : Bool) (s : List ℕ) (at : ℕ) →
    Decodes (instr w N B last) s at (placed_from w s at) (instr_end w s at)
unfolding instr instr_from instr_end
instr_decodes w N B last s at =
    here_decodes _
    (bind_decodes _ (field_decodes w any s at)
    (bind_decodes _ (field_decodes 1 (code_test last) s (at + w))
    (bind_decodes _ (operands_decode N B (shape_of (num_at s (at + w) 1)) _ _ s (at + w + 1)) give_decodes)))

-- ---- blocks, names, the record
pub block_decodes : (lim : Limits) (w N B : ℕ) (s : List ℕ) (at : ℕ) → Decodes (block lim w N B) s at (block_from w s at) (block_end w s at)
unfolding block body_from block_end
block_decodes lim w N B s at =
    bind_decodes _ (field_decodes 2 (at_most lim.body) s at)
    (bind_decodes _ (field_decodes 2 (saves_test lim.made) s (at + 2))
    (bind_decodes _
    (times_decode _ s (placed_from w s) (instr_end w s) (λ left at. instr_decodes w N B (eqb left 0) s at) (num_at s at 2) (at + 2 + 2))
    give_decodes))

name_decodes : (lim : Limits) (seen : List (List ℕ)) (s : List ℕ) (at : ℕ) → Decodes (name lim seen) s at (name_from s at) (name_end s at)
unfolding name name_end
name_decodes lim seen s at =
    bind_decodes _ (field_decodes 1 type_test s at)
    (bind_decodes _ (field_decodes 1 (text_length_test lim.text) s (at + 1))
    (bind_decodes _ (text_decodes (num_at s (at + 1) 1) (text_test lim.made seen) s (at + 1 + 1)) give_decodes))

pub names_decode :
    (lim : Limits) (seen : List (List ℕ)) (s : List ℕ) (n at : ℕ) →
    Decodes (names lim seen n) s at (items (name_from s) (name_end s) at n) (behind (name_end s) at n)
unfolding names items behind
names_decode lim seen s zero at = give_decodes
names_decode lim seen s (suc n) at =
    bind_decodes _ (name_decodes lim seen s at)
    (bind_decodes _ (names_decode lim (seen ++ ((name_from s at).text ∷ [])) s n (name_end s at)) give_decodes)

contents_decode : (lim : Limits) (s : List ℕ) → Decodes (contents lim) s 4 (record_from s) (blocks_end s)
unfolding contents record_from names_end blocks_end
contents_decode lim s =
    let w = id_bytes (num_at s 4 1) in
    let e = names_end s in
    let b = num_at s e 2 in
    bind_decodes _ (field_decodes 1 version_test s 4)
    (bind_decodes _ (field_decodes 1 (at_most most_args) s 5)
    (bind_decodes _ (field_decodes 2 (names_test lim.names (num_at s 5 1)) s 6)
    (bind_decodes _ (names_decode lim [] s (names_count s) 8)
    (bind_decodes _ (field_decodes 2 (at_most most_blocks) s e)
    (bind_decodes _
    (times_decode _ s (block_from w s) (block_end w s) (λ left at. block_decodes lim w (names_count s) b s at) b (e + 2))
    give_decodes)))))

pub length_decodes : (s : List ℕ) → Decodes length_field s 0 (num_at s 0 4) 4
unfolding length_field
length_decodes s = record { told = (field_decodes 4 (length_test (length s - 4)) s 0).told }

pub end_decodes : (s : List ℕ) (at : ℕ) → Decodes end s at tt at
unfolding end
end_decodes s at = record { told = λ y q e. go (ltb at (length s)) y q e }
  where
    go : (b : Bool) (y : Unit {0}) (q : ℕ) → refuse b Length at (got tt at) ≡ got y q → (y ≡ tt) × (q ≡ at)
    go true y q e = clash (cc)
    go false y q e = (refl, cc)

-- a record that is read without a fault is the record of its bytes
pub read_decodes : (lim : Limits) (s : List ℕ) → Decodes (read lim) s 0 (record_from s) (blocks_end s)
unfolding read
read_decodes lim s =
    bind_decodes _ (length_decodes s)
    (bind_decodes _ (contents_decode lim s)
    (bind_decodes _ (end_decodes s (blocks_end s)) give_decodes))
