-- A step from a spot: which instruction it does, and where a run stands after one without an event.
use Prim.Native.Nat.{ℕ, suc, ◌+◌, ◌-◌, ◌<◌}
use mathlib.Core.Path.{◌≡◌, refl, sym, ap, ◌∙◌, subst}
use mathlib.Core.Logic.{◌≢◌}
use mathlib.Core.List.{List, []}
use mathlib.Core.Bool.{Bool, true, false, cond}
use mathlib.Core.Option.{Option, none, some}
use native.Mathlib.Omega.{arith}
use Rattle.std.proofs.Common.{Result as CodeResult, Ok, Err}
use Rattle.arith.specs.Map.{upd}
use Rattle.arith.specs.Value.{Val}
use Rattle.arith.specs.Operation.{Result, ok, stops, unset, by_zero, Expr, eval}
use Rattle.record.specs.declared.NameIx.{NameIx}
use Rattle.record.specs.Record.{NameIx-discrete, Instr, Block, type_in}
use Rattle.record.specs.Form.{Form, pure, nop, jump, branch, form}
use Rattle.record.specs.Reader.{num_at}
use Rattle.record.specs.Decode.{id_width, instr_from, instr_end}
use Rattle.machine.specs.Machine.{Store, Context, Answer, Stop, at_unset, at_division, Mach, tick, assign, finish, choose, bool_in, act, step}
use Rattle.running.specs.Steps.{Stand, facing, over, first_of, land, moved, step_from, take_step}
use Rattle.running.specs.Engine.{fits_form, fits, fits_at}
use Rattle.engine_cells.specs.declared.Cells.{Cells}
use Rattle.engine_cells.specs.Cells.{store_in}
use Rattle.engine_pure.specs.declared.Stop.{Stop as Stop'}
use Rattle.engine_pure.specs.declared.Stop.TheVariants as stop
use Rattle.engine_pure.specs.Works.{Works}
use Rattle.engine_quiet.specs.declared.Ground.{Ground}
use Rattle.engine_quiet.specs.declared.Over.{Over}
use Rattle.engine_quiet.specs.declared.Over.TheVariants.{Unset, Division, Unfit}
use Rattle.engine_quiet.specs.declared.Spot.{Spot}
use Rattle.engine_quiet.specs.Spot.{stop_by, told_types, body_at, blocks_of, stand_of, at_spot, Standing, Facing, Landed, Moved}
use Rattle.engine_quiet.proofs.Landing.{first_some}
use Rattle.engine_quiet.proofs.Operands.{id_is}

-- where a run stands
abbrev pub Run : Type 0
Run = CodeResult Spot Over

-- ---- a spot with instructions left
module _ (s : List ℕ) (p : Spot) where
  -- the instruction that stands there, and those behind it in the block
  abbrev pub here : Instr
  here = instr_from (id_width s) s p.at

  abbrev pub rest : List Instr
  rest = body_at s (instr_end (id_width s) s p.at) (p.left - 1)

  module _ (h : 0 < p.left) where
    pub stands_at : stand_of s (Ok p) ≡ facing p.block here rest
    stands_at = first_some s p.block p.at p.left _ h

    module _ (ctx : Context) (bs : List (Block Instr)) (m : Mach) where
      pub fits_here : fits_at ctx m (stand_of s (Ok p)) ≡ fits_form ctx here m (form ctx.types here)
      unfolding fits
      fits_here = ap (fits_at ctx m) stands_at

      pub takes_here :
          take_step ctx bs (record { stand = stand_of s (Ok p); mach = m }) ≡
          moved bs p.block rest (act ctx here (tick m) (form ctx.types here))
      unfolding take_step step
      takes_here = ap (step_from ctx bs m) stands_at

-- ---- what an operation left
module _ (before after : Cells 256) (d : NameIx) where
  abbrev Left : CodeResult Unit Stop' → Result → Type 0
  Left w r = Works before after d r w

  worked_done :
      (r : Result) → Left (Ok tt) r →
      (v : Val) × ((r ≡ ok v) × (store_in after ≡ upd NameIx-discrete (store_in before) d (some v)))
  unfolding Works
  worked_done (ok v) h = (v, (refl, h.1))
  worked_done (stops c) h = absurd (cc h.0)
  worked_done unset h = absurd (cc h.0)

  worked_stops : (r : Result) → Left (Err stop.Division) r → (r ≡ stops by_zero) × (after ≡ before)
  unfolding Works
  worked_stops (ok v) h = absurd (cc h.0)
  worked_stops (stops by_zero) h = (refl, h.1)
  worked_stops unset h = absurd (cc h.0)

  worked_unset : (r : Result) → Left (Err stop.Unset) r → (r ≡ unset) × (after ≡ before)
  unfolding Works
  worked_unset (ok v) h = absurd (cc h.0)
  worked_unset (stops c) h = absurd (cc h.0)
  worked_unset unset h = (refl, h.1)

-- ---- a step without an event
module _ (g : Ground) (before : Cells 256) (p : Spot) (facing : Facing g p) where
  abbrev s : List ℕ
  s = g.s.now

  abbrev types : List ℕ
  types = g.types.now

  abbrev ctx : Context
  ctx = told_types types

  abbrev bs : List (Block Instr)
  bs = blocks_of g

  -- the store is that of some cells
  abbrev mach : Store → List Answer → ℕ → Mach
  mach σ xs k = record { store = σ; answers = xs; events = []; steps = k }

  -- the next instruction, or the next block
  abbrev pub onward_stand : Stand
  onward_stand = first_of p.block (rest s p) (land bs (p.block + 1))

  module _ (after : Cells 256) (r : Run) (f : Form) (e : form (type_in types) (here s p) ≡ f) where
    moved_by :
        ((xs : List Answer) → fits_form ctx (here s p) (mach (store_in before) xs 0) f ≡ true) →
        ((xs : List Answer) → moved bs p.block (rest s p) (act ctx (here s p) (mach (store_in before) xs 1) f) ≡ at_spot s after xs r 1) →
        Standing g r →
        r ≢ Err Unfit →
        Moved g before after p r
    unfolding tick
    moved_by fit take standing stop =
        record {
          fits = λ xs. fits_here s p facing.standing.some ctx bs (mach (store_in before) xs 0) ∙ ap (fits_form ctx (here s p) (mach (store_in before) xs 0)) e ∙ fit xs;
          takes = λ xs.
              takes_here s p facing.standing.some ctx bs (mach (store_in before) xs 0) ∙
              ap (λ (g : Form). moved bs p.block (rest s p) (act ctx (here s p) (mach (store_in before) xs 1) g)) e ∙
              take xs;
          standing = standing;
          stop = stop;
        }

  -- to the next instruction, with this store
  goes_on :
      (after : Cells 256) (r : Run) (σ : Store) → store_in after ≡ σ → Landed g onward_stand r → (xs : List Answer) →
      record { stand = first_of p.block (rest s p) (land bs (suc p.block)); mach = mach σ xs 1 } ≡ at_spot s after xs r 1
  goes_on after r σ e l xs =
      let one : p.block + 1 ≡ suc p.block = omega arith in
      let d : first_of p.block (rest s p) (land bs (suc p.block)) ≡ stand_of s r =
      ap (λ (b : ℕ). first_of p.block (rest s p) (land bs b)) (sym one) ∙ sym l.stand in
      λ i. record { stand = d i; mach = mach (sym e i) xs 1 }

  -- to another block
  lands_at :
      (r : Run) (b : ℕ) → Landed g (land bs b) r → (xs : List Answer) →
      record { stand = land bs b; mach = mach (store_in before) xs 1 } ≡ at_spot s before xs r 1
  lands_at r b l xs = λ i. record { stand = sym l.stand i; mach = mach (store_in before) xs 1 }

  -- over
  ended :
      (after : Cells 256) (r : Run) (k : Over) (stop : Stop) → stop ≡ stop_by k →
      after ≡ before → r ≡ Err k → (xs : List Answer) →
      record { stand = over stop; mach = mach (store_in before) xs 1 } ≡ at_spot s after xs r 1
  ended after r k stop e same eq xs =
      let d : over stop ≡ stand_of s r = ap over e ∙ ap (stand_of s) (sym eq) in
      λ i. record { stand = d i; mach = mach (store_in (sym same i)) xs 1 }

  ended_standing : (r : Run) (k : Over) → r ≡ Err k → Standing g r
  ended_standing r k eq = subst (Standing g) (sym eq) tt

  ended_stop : (r : Run) (k : Over) → k ≢ Unfit → r ≡ Err k → r ≢ Err Unfit
  ended_stop r k other eq = λ e. let same : Err k ≡ Err Unfit = sym eq ∙ e in other (cc same)

  -- an operation, by what it gives
  module _ (after : Cells 256) (r : Run) (x : Expr NameIx) (e : form (type_in types) (here s p) ≡ pure x) where
    pub sets_moved :
        (v : Val) → eval (store_in before) x ≡ ok v →
        store_in after ≡ upd NameIx-discrete (store_in before) (here s p).dest (some v) →
        Landed g onward_stand r → Moved g before after p r
    unfolding fits_form act finish assign
    sets_moved v gives set l =
        moved_by after r (pure x) e (λ xs. refl)
        (λ xs. ap (λ (z : Result). moved bs p.block (rest s p) (finish (here s p) (mach (store_in before) xs 1) z)) gives ∙
        goes_on after r (upd NameIx-discrete (store_in before) (here s p).dest (some v)) set l xs)
        l.standing l.stop

    pub division_moved :
        eval (store_in before) x ≡ stops by_zero → after ≡ before → (id : ℕ) → id ≡ num_at s p.at (id_width s) →
        r ≡ Err (Division id) → Moved g before after p r
    unfolding fits_form act finish stop_by
    division_moved gives same id ei eq =
        moved_by after r (pure x) e (λ xs. refl)
        (λ xs. ap (λ (z : Result). moved bs p.block (rest s p) (finish (here s p) (mach (store_in before) xs 1) z)) gives ∙
        ended after r (Division id) (at_division (here s p).id by_zero)
        (ap (λ (n : ℕ). at_division n by_zero) (id_is (id_width s) s p.at ∙ sym ei)) same eq xs)
        (ended_standing r (Division id) eq) (ended_stop r (Division id) (λ q. cc q) eq)

    pub unset_moved :
        eval (store_in before) x ≡ unset → after ≡ before → r ≡ Err Unset → Moved g before after p r
    unfolding fits_form act finish stop_by
    unset_moved gives same eq =
        moved_by after r (pure x) e (λ xs. refl)
        (λ xs. ap (λ (z : Result). moved bs p.block (rest s p) (finish (here s p) (mach (store_in before) xs 1) z)) gives ∙
        ended after r Unset at_unset refl same eq xs)
        (ended_standing r Unset eq) (ended_stop r Unset (λ q. cc q) eq)

    -- by what an operation answers
    module _ (worked : CodeResult Unit Stop') (works : Works before after (here s p).dest (eval (store_in before) x) worked) where
      pub done_moved : worked ≡ Ok tt → Landed g onward_stand r → Moved g before after p r
      done_moved w l =
          let (v, g) = worked_done before after (here s p).dest (eval (store_in before) x) (rw w at works) in
          sets_moved v g.0 g.1 l

      pub stops_moved :
          worked ≡ Err stop.Division → (id : ℕ) → id ≡ num_at s p.at (id_width s) → r ≡ Err (Division id) → Moved g before after p r
      stops_moved w id ei eq =
          let g = worked_stops before after (here s p).dest (eval (store_in before) x) (rw w at works) in
          division_moved g.0 g.1 id ei eq

      pub lacks_moved : worked ≡ Err stop.Unset → r ≡ Err Unset → Moved g before after p r
      lacks_moved w eq =
          let g = worked_unset before after (here s p).dest (eval (store_in before) x) (rw w at works) in
          unset_moved g.0 g.1 eq

  -- nop
  pub nop_moved :
      (r : Run) → form (type_in types) (here s p) ≡ nop → Landed g onward_stand r → Moved g before before p r
  unfolding fits_form act
  nop_moved r e l = moved_by before r nop e (λ xs. refl) (goes_on before r (store_in before) refl l) l.standing l.stop

  -- jmp
  pub jump_moved :
      (r : Run) (b : ℕ) → form (type_in types) (here s p) ≡ jump b → Landed g (land bs b) r →
      Moved g before before p r
  unfolding fits_form act
  jump_moved r b e l = moved_by before r (jump b) e (λ xs. refl) (λ xs. lands_at r b l xs) l.standing l.stop

  -- br, by what the name holds
  module _ (r : Run) (a : NameIx) (b c : ℕ) (e : form (type_in types) (here s p) ≡ branch a b c) where
    pub branch_moved :
        (d : Bool) → bool_in (store_in before a) ≡ some d → Landed g (land bs (cond d b c)) r → Moved g before before p r
    unfolding fits_form act choose
    branch_moved d holds l =
        moved_by before r (branch a b c) e (λ xs. refl)
        (λ xs. ap (λ (o : Option Bool). moved bs p.block (rest s p) (choose b c (mach (store_in before) xs 1) o)) holds ∙
        go d xs ∙ lands_at r (cond d b c) l xs)
        l.standing l.stop
      where
        go : (d : Bool) (xs : List Answer) →
            moved bs p.block (rest s p) (choose b c (mach (store_in before) xs 1) (some d)) ≡
            record { stand = land bs (cond d b c); mach = mach (store_in before) xs 1 }
        go true xs = refl
        go false xs = refl

    pub branch_unset : bool_in (store_in before a) ≡ none → r ≡ Err Unset → Moved g before before p r
    unfolding fits_form act choose stop_by
    branch_unset holds eq =
        moved_by before r (branch a b c) e (λ xs. refl)
        (λ xs. ap (λ (o : Option Bool). moved bs p.block (rest s p) (choose b c (mach (store_in before) xs 1) o)) holds ∙
        ended before r Unset at_unset refl refl eq xs)
        (ended_standing r Unset eq) (ended_stop r Unset (λ q. cc q) eq)
