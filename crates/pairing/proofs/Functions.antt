-- The rewriting of a whole function: its blocks are paired with the input's, no block has too many saves, and the runs are alike.
-- Rests on what the rewriting writes (numbering), on tables of types (Context), and on the theorems on one block and on whole runs.
use Prim.Native.Nat.{ℕ, zero, suc, ◌+◌, ◌<◌, ◌≤◌}
use mathlib.Core.Path.{◌≡◌, refl, sym, ap, ◌∙◌, subst}
use mathlib.Core.Logic.{◌≢◌}
use mathlib.Core.Bool.{Bool, true, false, cond, true≢false}
use mathlib.Core.List.{List, [], ◌∷◌, ◌++◌}
use mathlib.Core.Option.{none-ne-some}
use native.Mathlib.Nat.{add-zero}
use native.Mathlib.Omega.{arith}
use lib.ListN.{length}
use Rattle.arith.proofs.Clash.{clash}
use Rattle.arith.specs.Value.{HasType}
use Rattle.record.specs.declared.NameIx.{NameIx}
use Rattle.record.specs.Record.{nm, Instr, Block, Function, names_of, type_in, arg}
use Rattle.record.specs.Shape.{shape_of}
use Rattle.numbering.specs.State.{State, start}
use Rattle.numbering.specs.Number.{instr_lvn, block_lvn, is_save, count_saves, blocks_lvn, saved_in, made_from, lvn}
use Rattle.numbering.proofs.Saves.{Originals, Saves, no_saves, one_save, instr_emits, emitted_no_save, save_is_save, Makes, no_more, a_save, another}
use Rattle.numbering.proofs.Made.{MakesAll, lvn_makes, saved_in_save, saved_in_other, saved_in_length, OriginalBlocks, lvn_type_original, TypedFrom, lvn_typed, typed_left, typed_right}
use Rattle.machine.specs.Machine.{Store, Context, plain_machine, Answer, at_unset, nth, run_with, run}
use Rattle.pairing.specs.Demand.{shown, stop, saves_field, body_of, Agree, Starts, RunAlike, count_dests, SavesBounded, All}
use Rattle.pairing.specs.Joint.{Setting, Performed, Paired, start_joint, PairedBlocks, no_blocks, block_pair}
use Rattle.pairing.proofs.Fit.{FitBody, FitFunction}
use Rattle.pairing.proofs.Saving.{MadeTypes}
use Rattle.pairing.proofs.Rewriting.{block_paired}
use Rattle.pairing.proofs.Relation.{StartsIn}
use Rattle.pairing.proofs.Runs.{runs_alike}
use Rattle.pairing.proofs.Progress.{read_then_quiet}
use Rattle.pairing.proofs.Context.{FitBlocks, fit_body, block_lvn_cong, run_with_cong}

-- ---- an input's instructions
pub fit_originals : (N : ℕ) (t : NameIx → ℕ) (is : List Instr) → FitBody N t is → Originals N t is
fit_originals N t [] h = tt
fit_originals N t (i ∷ is) h = (h.0.original, fit_originals N t is h.1.1)

pub fit_blocks :
    (N : ℕ) (t : NameIx → ℕ) (bs : List (Block Instr)) → FitBlocks N t bs → OriginalBlocks N t bs
fit_blocks N t [] h = tt
fit_blocks N t (b ∷ bs) h = (fit_originals N t b.body h.0, fit_blocks N t bs h.1)

-- ---- "No block has more saves than the same block of the input has instructions with a destination."
-- d: whether the instruction has a dest
emitted_bound :
    (N : ℕ) {id : ℕ} {x : NameIx} {k k' : ℕ} {ss : List Instr} (i : Instr) (is : List Instr) (d : Bool) (n : ℕ) →
    Saves N id x k ss k' →
    (d ≡ false → ss ≡ []) →
    is_save N i ≡ false →
    count_saves N is ≤ n →
    count_saves N (ss ++ (i ∷ is)) ≤ cond d 1 0 + n
unfolding count_saves
emitted_bound N i is d n no_saves u h l = rw h (omega arith)
emitted_bound N {id = id} {x = x} {k = k} i is true n (one_save b) u h l = rw (h, save_is_save N id x k) (omega arith)
emitted_bound N {id = id} {x = x} {k = k} i is false n (one_save b) u h l =
    let e = u refl in
    clash (cc)

block_bound :
    (N : ℕ) (t : NameIx → ℕ) (is : List Instr) (s : State) →
    Originals N t is →
    count_saves N (block_lvn N t s is).body ≤ count_dests is
unfolding block_lvn count_saves count_dests
block_bound N t [] s h = omega arith
block_bound N t (i ∷ is) s h =
    let e = instr_lvn N t s i in
    let w = instr_emits N t s i h.0 in
    emitted_bound N e.instr (block_lvn N t e.state is).body (shape_of i.code).dest (count_dests is) w.saves w.unsaved
    (emitted_no_save N s.temps t i e h.0 w)
    (block_bound N t is e.state h.1)

blocks_bound :
    (f : Function) (bs : List (Block Instr)) (k : ℕ) →
    OriginalBlocks (names_of f) (type_in f.types) bs →
    (b : ℕ) →
    saves_field (nth (blocks_lvn f k bs) b) ≤ count_dests (body_of (nth bs b))
unfolding blocks_lvn nth
blocks_bound f [] k h b = omega arith
blocks_bound f (x ∷ bs) k h zero = block_bound (names_of f) (type_in f.types) x.body (start f.args k) h.0
blocks_bound f (x ∷ bs) k h (suc b) =
    blocks_bound f bs (block_lvn (names_of f) (type_in f.types) (start f.args k) x.body).temps h.1 b

pub saves_bounded : (f : Function) → FitFunction f → SavesBounded f (lvn f)
unfolding lvn
saves_bounded f h = blocks_bound f f.blocks 0 (fit_blocks (names_of f) (type_in f.types) f.blocks h.blocks)

-- ---- the types of made names
typed_first : (t : NameIx → ℕ) (n : ℕ) (x : NameIx) (xs : List NameIx) → TypedFrom t n (x ∷ xs) → t (nm n) ≡ t x
typed_first t n x xs h = ap (λ m. t (nm m)) (sym (add-zero n)) ∙ h 0 (omega arith)

typed_rest : (t : NameIx → ℕ) (N k : ℕ) (x : NameIx) (xs : List NameIx) → TypedFrom t (N + k) (x ∷ xs) → TypedFrom t (N + suc k) xs
typed_rest t N k x xs h j l = ap (λ m. t (nm m)) (shift N k j) ∙ h (suc j) (omega arith)
  where
    shift : (a b c : ℕ) → a + suc b + c ≡ a + b + suc c
    shift a b c = omega arith

made_types :
    (Γ : Setting) {k : ℕ} {is : List Instr} →
    Makes Γ.names k is →
    TypedFrom Γ.ctx.types (Γ.names + k) (saved_in Γ.names is) →
    MadeTypes Γ is
made_types Γ no_more h = tt
made_types Γ (a_save {k = k} {i = i} {is = is} s d a m) h =
    let N = Γ.names in
    let t = Γ.ctx.types in
    let g : TypedFrom t (N + k) (arg i 0 ∷ saved_in N is) = subst (TypedFrom t (N + k)) (saved_in_save N i is s) h in
    (λ b. ap t d ∙ typed_first t (N + k) (arg i 0) (saved_in N is) g, made_types Γ m (typed_rest t N k (arg i 0) (saved_in N is) g))
made_types Γ (another {k = k} {i = i} {is = is} s m) h =
    let g = subst (TypedFrom Γ.ctx.types (Γ.names + k)) (saved_in_other Γ.names i is s) h in
    (λ b. absurd (true≢false (sym b ∙ s)), made_types Γ m g)

blocks_made_types :
    (Γ : Setting) (k : ℕ) (bs : List (Block Instr)) →
    MakesAll Γ.names k bs →
    TypedFrom Γ.ctx.types (Γ.names + k) (made_from Γ.names bs) →
    All (λ (b : Block Instr). MadeTypes Γ b.body) bs
unfolding made_from
blocks_made_types Γ k [] m h = tt
blocks_made_types Γ k (b ∷ bs) m h =
    let N = Γ.names in
    let t = Γ.ctx.types in
    let here = saved_in N b.body in
    let rest = made_from N bs in
    let saved : length here ≡ count_saves N b.body = saved_in_length N b.body in
    let next : N + k + length here ≡ N + (k + count_saves N b.body) = omega arith in (
      made_types Γ m.0 (typed_left t (N + k) here rest h),
      blocks_made_types Γ (k + count_saves N b.body) bs m.1 (subst (λ n. TypedFrom t n rest) next (typed_right t (N + k) here rest h)),
    )

-- a function's own names and arguments, in another context
abbrev pub setting_in : Function → Context → Setting
setting_in f ctx = record { names = names_of f; args = f.args; ctx = ctx }

-- in the context of its rewriting
abbrev pub setting : Function → Setting
setting f = setting_in f (plain_machine (lvn f))

pub lvn_made_types : (f : Function) → FitFunction f → All (λ (b : Block Instr). MadeTypes (setting f) b.body) (lvn f).blocks
lvn_made_types f h =
    let N = names_of f in
    let fit = fit_blocks N (type_in f.types) f.blocks h.blocks in
    blocks_made_types (setting f) 0 (lvn f).blocks (lvn_makes f fit)
    (subst (λ n. TypedFrom (type_in (lvn f).types) n (made_from N (lvn f).blocks)) (sym (add-zero N)) (lvn_typed f fit))

-- ---- the blocks are paired
-- what is written of a block that K = k stands before
abbrev written : Function → ℕ → List Instr → List Instr
written f k is = (block_lvn (names_of f) (type_in f.types) (start f.args k) is).body

module _
    (f : Function)
    (few : f.args ≤ names_of f)
    (ctx : Context)
    (same : (x : NameIx) → x.0 < names_of f → ctx.types x ≡ type_in f.types x)
    (performed : (i : Instr) → Performed ctx i) where
  body_paired :
      (is : List Instr) (k : ℕ) →
      FitBody (names_of f) (type_in f.types) is →
      MadeTypes (setting_in f ctx) (written f k is) →
      Paired (setting_in f ctx) (start_joint f.args) is (written f k is)
  body_paired is k h m =
      let N = names_of f in
      let t = type_in f.types in
      let Γ = setting_in f ctx in
      let e = block_lvn_cong N t ctx.types same is (start f.args k) h in
      subst (λ q. Paired Γ (start_joint f.args) is q.body) e
      (block_paired Γ few performed is k (fit_body N t ctx.types same is h) (subst (λ q. MadeTypes Γ q.body) (sym e) m))

  blocks_paired :
      (bs : List (Block Instr)) (k : ℕ) →
      FitBlocks (names_of f) (type_in f.types) bs →
      All (λ (b : Block Instr). MadeTypes (setting_in f ctx) b.body) (blocks_lvn f k bs) →
      PairedBlocks (setting_in f ctx) bs (blocks_lvn f k bs)
  unfolding blocks_lvn
  blocks_paired [] k h m = no_blocks
  blocks_paired (b ∷ bs) k h m =
      let q = block_lvn (names_of f) (type_in f.types) (start f.args k) b.body in
      block_pair (body_paired b.body k h.0 m.0) refl (blocks_paired bs q.temps h.1 m.1)

-- what the machine performs itself has the right type: the plain machine performs nothing
plain_performed : (f : Function) (i : Instr) → Performed (plain_machine f) i
plain_performed f i vs v e = absurd (none-ne-some v e)

pub lvn_paired : (f : Function) → FitFunction f → PairedBlocks (setting f) f.blocks (lvn f).blocks
unfolding lvn
lvn_paired f h =
    blocks_paired f h.few (plain_machine (lvn f)) (lvn_type_original f) (plain_performed (lvn f)) f.blocks 0 h.blocks
    (lvn_made_types f h)

-- ---- the runs are alike
-- the run of a function under its own types is its run under those of its rewriting
pub run_retyped :
    (f : Function) → FitFunction f → (σ : Store) (answers : List Answer) (n : ℕ) →
    run f σ answers n ≡ run_with (plain_machine (lvn f)) f.blocks σ answers n
unfolding run
run_retyped f h σ answers n =
    sym (run_with_cong (names_of f) (plain_machine f) (type_in (lvn f).types) (lvn_type_original f) f.blocks h.blocks σ answers n)

starts_retyped : (f : Function) (σ₁ σ₂ : Store) → Starts f σ₁ σ₂ → StartsIn (setting f) σ₁ σ₂
starts_retyped f σ₁ σ₂ s =
    record {
      typed = λ x l v e. subst (λ t. HasType t v) (sym (lvn_type_original f x l)) (s.typed x l v e);
      set = s.set;
      same = s.same;
    }

pub demand3 : (f : Function) → FitFunction f → RunAlike f (lvn f)
unfolding run
demand3 f h σ₁ σ₂ s answers n read =
    let quiet = read_then_quiet f h σ₁ s.typed answers n read in
    let e = run_retyped f h σ₁ answers n in
    subst (λ r. Agree (names_of f) (lvn f).blocks r (run (lvn f) σ₂ answers n)) (sym e)
    (runs_alike (setting f) f.blocks (lvn f).blocks h.few (lvn_paired f h) σ₁ σ₂ (starts_retyped f σ₁ σ₂ s) answers n
    (subst (λ r. shown r.place ≢ stop at_unset) e quiet))
