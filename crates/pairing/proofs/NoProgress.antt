-- What is no progress: runs, written out, that have stopped as unset where every argument is set or where nothing stands, that hold a
-- value of another type, or that have stopped in a division which is none, is another or is not by 0. So the statement of progress says
-- something.
use Prim.Native.Nat.{ℕ}
use mathlib.Core.Path.{◌≡◌, refl, sym, subst}
use mathlib.Core.Bool.{true, false, true≢false}
use mathlib.Core.List.{List, [], ◌∷◌}
use mathlib.Core.Option.{Option, none, some, none-ne-some, some-injective}
use native.Mathlib.Omega.{arith}
use Rattle.arith.specs.Value.{Val, int, bool, type_of, in_range}
use Rattle.arith.specs.Code.{code1, code2, with_code, one_of, two_of}
use Rattle.arith.specs.Operation.{by_zero}
use Rattle.arith.proofs.Clash.{clash}
use Rattle.record.specs.Record.{nm, Instr, Function, type_in}
use Rattle.record.specs.Form.{form}
use Rattle.record.specs.Short.{gives}
use Rattle.machine.specs.Machine.{at_unset, at_end, at_division, Stop, stopped, Run, nth}
use Rattle.machine.specs.Reached.{is_set, all_set}
use Rattle.machine.specs.Examples.{store_of}
use Rattle.pairing.specs.Progress.{ReadsUnset, ByZero, Progress}

-- a = add a b, over ints
abbrev adds : Instr
adds = gives 1 0 1 (0 ∷ 1 ∷ [])

-- a = div a b
abbrev divides : Instr
divides = gives 1 0 4 (0 ∷ 1 ∷ [])

abbrev of_one : Instr → Function
of_one i = record { args = 1; types = 0 ∷ 0 ∷ []; blocks = record { saves = 0; body = i ∷ [] } ∷ [] }

abbrev func : Function
func = of_one adds

-- stopped so at place p of block 0, with these values of a and b
abbrev halted : Stop → ℕ → List (Option Val) → Run
halted s p vs =
    record { place = stopped s 0 p; passed = []; mach = record { store = store_of vs; answers = []; events = []; steps = 1 } }

-- every argument is set
pub all_are_set : Progress func (halted at_unset 0 (some (int 5) ∷ some (int 7) ∷ [])) → ⊥
unfolding nth all_set is_set
all_are_set h =
    let u : ReadsUnset func.blocks (store_of (some (int 5) ∷ some (int 7) ∷ [])) 0 0 = h.stop 0 0 refl in
    let i : adds ≡ u.instr = some-injective adds u.instr u.there in
    true≢false (subst (λ (j : Instr). all_set (store_of (some (int 5) ∷ some (int 7) ∷ [])) j.args ≡ false) (sym i) u.unset)

-- no instruction stands there
pub nothing_there : Progress func (halted at_unset 1 (some (int 5) ∷ none ∷ [])) → ⊥
unfolding nth
nothing_there h =
    let u : ReadsUnset func.blocks (store_of (some (int 5) ∷ none ∷ [])) 0 1 = h.stop 0 1 refl in
    none-ne-some u.instr u.there

-- an int that holds a bool: the last name, and where the run has not stopped as unset
pub another_type : Progress func (halted at_end 0 (some (int 5) ∷ some (bool true) ∷ [])) → ⊥
unfolding type_of in_range type_in
another_type h = h.typed (nm 1) (omega arith) (bool true) refl

-- ---- stopped in a division of the id k
abbrev divided : ℕ → List (Option Val) → Run
divided k vs = halted (at_division k by_zero) 0 vs

abbrev five_and : ℕ → List (Option Val)
five_and n = some (int 5) ∷ some (int n) ∷ []

-- what progress says of an instruction that stands there alone
said : (i : Instr) (k : ℕ) (vs : List (Option Val)) → Progress (of_one i) (divided k vs) → ByZero (type_in (0 ∷ 0 ∷ [])) (store_of vs) i k
unfolding nth
said i k vs h =
    let u = h.division 0 0 k by_zero refl in
    subst (λ j. ByZero (type_in (0 ∷ 0 ∷ [])) (store_of vs) j k) (sym (some-injective i u.instr u.there)) u.by_zero

-- an addition stands there
pub no_division : Progress func (divided 1 (five_and 0)) → ⊥
unfolding form one_of two_of with_code code1 code2
no_division h = clash (cc (said adds 1 (five_and 0) h).division)

-- a division of another id
pub other_division : Progress (of_one divides) (divided 2 (five_and 0)) → ⊥
other_division h = absurd (omega (arith, (said divides 2 (five_and 0) h).id))

-- 5 by 7
pub divisor_not_zero : Progress (of_one divides) (divided 1 (five_and 7)) → ⊥
unfolding form one_of two_of with_code code1 code2
divisor_not_zero h =
    let u = said divides 1 (five_and 7) h in
    let d : nm 1 ≡ u.divisor = cc u.division in
    let e : some (int 7) ≡ some (int 0) = subst (λ x. store_of (five_and 7) x ≡ some (int 0)) (sym d) u.zero in
    clash (cc e)
