-- "Check": what each field's number is tested for, and the reason of the refusal.
use Rattle.std.specs.Prelude.{ℕ, zero, suc, ◌%◌, List, Bool, true, false, not, ◌&&◌, ◌||◌, ltb, leb, eqb}
use Rattle.arith.specs.Value.{scalar}
use Rattle.record.specs.declared.Shape.{Shape}
use Rattle.record.specs.declared.Refusal.{Refusal}
use Rattle.record.specs.declared.Refusal.TheVariants.{Length, Version, Limit, Text, Code, Name, Place}
use Rattle.record.specs.Reader.{Test}
use Rattle.std.specs.Prelude.{Ok, Err}
use Rattle.record.specs.Shape.{shape_of}
use Rattle.record.specs.Text.{well_formed, reserved, among}

-- passes where the condition holds
abbrev pub need : Bool → Refusal → Test
need true k = Ok tt
need false k = Err k

-- two tests, the first first
abbrev pub and_then : Test → Test → Test
and_then (Ok p) t = t
and_then (Err k) t = Err k

unfoldable pub any : ℕ → Test
any x = Ok tt

unfoldable pub at_most : ℕ → ℕ → Test
at_most most x = need (leb x most) Limit

-- "a name or block number not in the record"
unfoldable pub below : ℕ → ℕ → Test
below n x = need (ltb x n) Name

-- L counts all that follows it
unfoldable pub length_test : ℕ → ℕ → Test
length_test rest l = need (eqb l rest) Length

-- "Refusal 2 is for versions other than 1 and 2"
unfoldable pub version_test : ℕ → Test
version_test v = need (eqb v 1 || eqb v 2) Version

-- "a limit, A above N (at N)"
unfoldable pub names_test : ℕ → ℕ → ℕ → Test
names_test most args n = need (leb n most && leb args n) Limit

-- "a type's low half above 3"
unfoldable pub type_test : ℕ → Test
type_test t = need (leb (t % 16) 3) Limit

-- "a text length of 0 or over 32"
unfoldable pub text_length_test : ℕ → ℕ → Test
text_length_test most n = need (leb 1 n && leb n most) Limit

-- "text malformed, reserved or used before"; reserved texts pass where made names may stand
unfoldable pub text_test : Bool → List (List ℕ) → List ℕ → Test
text_test made seen t = need (well_formed t && ((made || not (reserved t)) && not (among t seen))) Text

-- "nonzero saves"
unfoldable pub saves_test : Bool → ℕ → Test
saves_test made n = need (made || eqb n 0) Limit

-- "unknown code", then "jmp, br or ret before the last place"
unfoldable pub code_test : Bool → ℕ → Test
code_test last c = and_then (need (shape_of c).known Code) (need (last || not (shape_of c).last) Place)

-- "an argument count"
unfoldable pub count_test : Shape → ℕ → Test
count_test sh n = need (leb sh.few n && leb n sh.most) Limit

-- "a bool or char literal not of its kind"
unfoldable pub literal_test : ℕ → ℕ → Test
literal_test zero x = Ok tt
literal_test (suc zero) x = at_most 1 x
literal_test (suc (suc zero)) x = Ok tt
literal_test (suc (suc (suc k))) x = need (scalar x) Limit
