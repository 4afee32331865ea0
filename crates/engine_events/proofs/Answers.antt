-- The world's answers: whether one fits, the answers left, and what an answer does to the run.
use Prim.Native.Nat.{ℕ, ◌-◌, ◌<◌}
use mathlib.Core.Path.{◌≡◌, refl, sym, ap, ◌∙◌, subst}
use mathlib.Core.Logic.{◌≢◌}
use mathlib.Core.List.{List, [], ◌∷◌, ◌++◌}
use mathlib.Core.Bool.{Bool, true, false, not}
use mathlib.Core.Option.{Option}
use Rattle.arith.specs.Map.{upd}
use Rattle.arith.specs.Value.{Val, has_type}
use Rattle.arith.proofs.Clash.{clash}
use Rattle.record.specs.declared.NameIx.{NameIx}
use Rattle.record.specs.Record.{nm, NameIx-discrete, Instr}
use Rattle.record.specs.Reader.{num_at}
use Rattle.record.specs.Decode.{items, index_from}
use Rattle.record.proofs.Rows.{one_more}
use Rattle.machine.specs.Machine.{Store, Answer, value, go_on, halt, Event, at_halt, Mach, goes, ends, assign, happens, take_value, answered, acknowledged}
use Rattle.running.specs.House.{nothing_byte}
use Rattle.running.specs.Items.{answer_from, answer_end}
use Rattle.running.specs.Engine.{fits_value, fits_effect}
use Rattle.engine_cells.specs.declared.Cell.{Cell}
use Rattle.engine_cells.specs.Cells.{cell_value, cell_holds}
use Rattle.engine_cells.proofs.Store.{held_some}
use Rattle.engine_house.specs.declared.Answer.{Answer as Told}
use Rattle.engine_house.specs.declared.Answer.TheVariants.{GoOn, Halt, Value}
use Rattle.engine_house.specs.Reads.{Sure, answer_of}
use Rattle.engine_events.specs.Replies.{reply, fits_reply, given, Known}

-- ---- dest, whose index x stands at a place
pub dest_name : (s : List ℕ) (at x : ℕ) → x ≡ num_at s at 2 → nm x ≡ index_from s at
unfolding index_from
dest_name s at x e = ap nm e

-- ---- what takes says; b: whether there is a dest, ty: its type
module _ (b : Bool) (ty : ℕ) (σ : Store) (d : NameIx) where
  abbrev Fits : Told → Bool
  Fits x = fits_reply b ty (answer_of x ∷ [])

  abbrev after : Told → Store
  after x = given b (answer_of x) σ d

  -- go on alone is for what has no dest
  pub takes_go_on : (not b ≡ Fits GoOn) × (not b ≡ true → σ ≡ after GoOn)
  unfolding fits_reply fits_value fits_effect given
  takes_go_on = go b
    where
      go : (b : Bool) → (not b ≡ fits_reply b ty (go_on ∷ [])) × (not b ≡ true → σ ≡ given b go_on σ d)
      go true = (refl, λ _. refl)
      go false = (refl, λ _. refl)

  pub takes_halt : (true ≡ Fits Halt) × (true ≡ true → σ ≡ after Halt)
  unfolding fits_reply fits_value fits_effect given
  takes_halt = go b
    where
      go : (b : Bool) → (true ≡ fits_reply b ty (halt ∷ [])) × (true ≡ true → σ ≡ given b halt σ d)
      go true = (refl, λ _. refl)
      go false = (refl, λ _. refl)

  module _ (c : Cell) where
    pub takes_none : b ≡ false → false ≡ Fits (Value c)
    unfolding fits_reply fits_effect
    takes_none h = sym (ap (λ (b : Bool). fits_reply b ty (value (cell_value c) ∷ [])) h)

    module _ (has : b ≡ true) where
      pub takes_fits : Fits (Value c) ≡ has_type ty (cell_value c)
      unfolding fits_reply fits_value
      takes_fits = ap (λ (b : Bool). fits_reply b ty (value (cell_value c) ∷ [])) has

      pub takes_sets : c.kind ≢ nothing_byte → upd NameIx-discrete σ d (cell_holds c) ≡ after (Value c)
      unfolding given
      takes_sets n =
          ap (λ (o : Option Val). upd NameIx-discrete σ d o) (held_some c.kind c.word c.offset n) ∙
          sym (ap (λ (b : Bool). given b (value (cell_value c)) σ d) has)

-- ---- the answers left
module _ (list : List ℕ) (at n : ℕ) where
  pub answers_none : n ≡ 0 → items (answer_from list) (answer_end list) at n ≡ []
  unfolding items
  answers_none e = ap (items (answer_from list) (answer_end list) at) e

  module _ (h : 0 < n) where
    pub answers_more :
        items (answer_from list) (answer_end list) at n ≡
        answer_from list at ∷ items (answer_from list) (answer_end list) (answer_end list at) (n - 1)
    unfolding items
    answers_more = ap (items (answer_from list) (answer_end list) at) (one_more n h)

    sure_both : Sure list at n → Known (num_at list at 1) × Sure list (answer_end list at) (n - 1)
    unfolding Sure
    sure_both u = subst (Sure list at) (one_more n h) u

    pub sure_first : Sure list at n → Known (num_at list at 1)
    sure_first u = (sure_both u).0

    pub sure_rest : Sure list at n → Sure list (answer_end list at) (n - 1)
    sure_rest u = (sure_both u).1

-- ---- what an answer does; b: whether the code has a dest, t: its type
module _ (b : Bool) (t : ℕ) where
  pub fits_first : (x : Answer) (xs : List Answer) → fits_reply b t (x ∷ xs) ≡ fits_reply b t (x ∷ [])
  unfolding fits_reply fits_value fits_effect
  fits_first x xs = go b x
    where
      go : (b : Bool) (x : Answer) → fits_reply b t (x ∷ xs) ≡ fits_reply b t (x ∷ [])
      go true (value v) = refl
      go true go_on = refl
      go true halt = refl
      go false (value v) = refl
      go false go_on = refl
      go false halt = refl

  pub fits_none : (xs : List Answer) → xs ≡ [] → fits_reply b t xs ≡ true
  unfolding fits_reply fits_value fits_effect
  fits_none xs e = ap (fits_reply b t) e ∙ go b
    where
      go : (b : Bool) → fits_reply b t [] ≡ true
      go true = refl
      go false = refl

  pub fits_halt : (xs rest : List Answer) → xs ≡ halt ∷ rest → fits_reply b t xs ≡ true
  unfolding fits_reply fits_value fits_effect
  fits_halt xs rest e = ap (fits_reply b t) e ∙ go b
    where
      go : (b : Bool) → fits_reply b t (halt ∷ rest) ≡ true
      go true = refl
      go false = refl

  module _ (i : Instr) (m : Mach) (e : Event) where
    pub reply_none : (xs : List Answer) → xs ≡ [] → reply b t i m e xs ≡ ends at_halt (happens m e xs)
    unfolding reply answered acknowledged
    reply_none xs f = ap (reply b t i m e) f ∙ go b ∙ ap (λ (ys : List Answer). ends at_halt (happens m e ys)) (sym f)
      where
        go : (b : Bool) → reply b t i m e [] ≡ ends at_halt (happens m e [])
        go true = refl
        go false = refl

    pub reply_halt : (xs rest : List Answer) → xs ≡ halt ∷ rest → reply b t i m e xs ≡ ends at_halt (happens m e rest)
    unfolding reply answered acknowledged
    reply_halt xs rest f = ap (reply b t i m e) f ∙ go b
      where
        go : (b : Bool) → reply b t i m e (halt ∷ rest) ≡ ends at_halt (happens m e rest)
        go true = refl
        go false = refl

    -- the machine behind an answer x that fits
    abbrev pub behind_answer : Answer → List Answer → Mach
    behind_answer x rest =
        record { store = given b x m.store i.dest; answers = rest; events = m.events ++ (e ∷ []); steps = m.steps }

pub reply_goes :
    (b : Bool) (t : ℕ) (i : Instr) (m : Mach) (e : Event) (x : Answer) (rest : List Answer) →
    fits_reply b t (x ∷ []) ≡ true → x ≢ halt →
    reply b t i m e (x ∷ rest) ≡ goes (behind_answer b t i m e x rest)
unfolding reply fits_reply fits_value fits_effect answered acknowledged take_value happens assign given
reply_goes true t i m e (value v) rest f h = ap (λ (k : Bool). take_value k i (happens m e rest) v) f
reply_goes true t i m e go_on rest f h = clash (cc f)
reply_goes true t i m e halt rest f h = absurd (h refl)
reply_goes false t i m e (value v) rest f h = clash (cc f)
reply_goes false t i m e go_on rest f h = refl
reply_goes false t i m e halt rest f h = absurd (h refl)
