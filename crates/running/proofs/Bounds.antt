-- How many bytes the events can need: each takes an answer but the one at which a run stops, and an event of eight arguments has 148 bytes.
use Prim.Native.Nat.{ℕ, zero, suc, ◌+◌, ◌*◌, ◌≤◌}
use mathlib.Core.Path.{◌≡◌, refl, sym, ap, ◌∙◌, subst}
use mathlib.Core.Bool.{cond, not}
use mathlib.Core.Option.{Option, none, some}
use mathlib.Core.List.{List, [], ◌∷◌, ◌++◌, map, append_assoc}
use native.Mathlib.Omega.{arith}
use lib.ListN.{length, length-append}
use lib.Dec.{eqb}
use Rattle.arith.proofs.Clash.{clash}
use Rattle.arith.specs.Value.{Val, int, float, literal, char, bool, pointer}
use Rattle.record.specs.declared.NameIx.{NameIx}
use Rattle.record.specs.Record.{Instr, Placed, Block, Record, function, plain, limits, id_bytes}
use Rattle.record.specs.Form.{Form, pure, new, effect, return, nop, jump, branch, form}
use Rattle.record.specs.Reader.{got}
use Rattle.record.specs.Shape.{shape_of}
use Rattle.record.specs.Typing.{accept}
use Rattle.record.specs.Good.{Each, InstrOk, BlockOk}
use Rattle.record.specs.Write.{be, join}
use Rattle.record.proofs.Stands.{length_be}
use Rattle.record.proofs.Tests.{code_known}
use Rattle.record.proofs.Written.{few_enough}
use Rattle.record.proofs.Longest.{args_few}
use Rattle.record.proofs.Sizes.{id_bytes_are}
use Rattle.record.proofs.Form.{FormOf, of_constant, of_one, of_two, of_new, of_jump, of_branch, of_return, of_nop, of_effect, form_of}
use Rattle.record.proofs.Accepted.{read_ok}
use Rattle.record.proofs.Typed.{accept_typed}
use Rattle.machine.specs.Machine.{Store, Context, plain_machine, Answer, Event, Mach, Step, goes, jumps, ends, tick, assign, happens, read_all, read_cons, event_of, step}
use Rattle.running.specs.Steps.{Stand, facing, over, Config, moved, step_from, take_step, steps, start}
use Rattle.running.specs.House.{type_byte, words, value_bytes, event_bytes, events_bytes, nothing_byte, stored_bytes, form_bytes, store_bytes}
use Rattle.running.proofs.Kept.{Rest, all_left, one_taken, Comes, Told, step_comes, Shows, in_new, in_effect, in_return, Keeps, steps_keep}

-- ---- events and the answers that are left
-- over n answers at the start
module _ (n : ℕ) where
  abbrev Even : Mach → Type 0
  Even m = length m.events + length m.answers ≤ n

  abbrev Last : Mach → Type 0
  Last m = length m.events + length m.answers ≤ suc n

  added : (m : Mach) (e : Event) → length (m.events ++ (e ∷ [])) ≡ suc (length m.events)
  added m e = length-append m.events (e ∷ []) ∙ omega arith

  event_takes : (m : Mach) (e : Event) {xs ys : List Answer} (r : Rest xs ys) → length m.events + length xs ≤ n → Told Even Last r (happens m e ys)
  unfolding happens
  event_takes m e (all_left xs) h = omega (arith, h, added m e)
  event_takes m e (one_taken x xs) h = omega (arith, h, added m e)

  -- a step that stops may have an event that took no answer
  step_takes : (ctx : Context) (i : Instr) (m : Mach) → Even m → Comes Even Last (step ctx i m)
  unfolding tick assign
  step_takes ctx i m h =
      step_comes ctx i Even Last (λ m h. omega (arith, h)) (λ m v g h. h) (λ m vs xs s r h. event_takes m (event_of i vs) r h) m h

  -- what is running has an answer less for each event
  abbrev Balanced : Stand → Mach → Type 0
  Balanced (facing b i is) m = Even m
  Balanced (over s) m = Last m

  even_balanced : (d : Stand) (m : Mach) → Even m → Balanced d m
  even_balanced (facing b i is) m h = h
  even_balanced (over s) m h = omega (arith, h)

  module _ (ctx : Context) (bs : List (Block Instr)) where
    moved_balanced : (b : ℕ) (is : List Instr) (s : Step) → Comes Even Last s → Balanced (moved bs b is s).stand (moved bs b is s).mach
    moved_balanced b is (goes m) h = even_balanced (moved bs b is (goes m)).stand m h
    moved_balanced b is (jumps c m) h = even_balanced (moved bs b is (jumps c m)).stand m h
    moved_balanced b is (ends s m) h = h

    from_balanced : (m : Mach) (d : Stand) → Balanced d m → Balanced (step_from ctx bs m d).stand (step_from ctx bs m d).mach
    from_balanced m (facing b i is) h = moved_balanced b is (step ctx i m) (step_takes ctx i m h)
    from_balanced m (over s) h = h

    steps_balanced : (k : ℕ) (c : Config) → Balanced c.stand c.mach → Balanced (steps ctx bs k c).stand (steps ctx bs k c).mach
    unfolding steps take_step
    steps_balanced zero c h = h
    steps_balanced (suc k) c h = steps_balanced k (take_step ctx bs c) (from_balanced c.mach c.stand h)

balanced_last : (n : ℕ) (d : Stand) (m : Mach) → Balanced n d m → length m.events + length m.answers ≤ suc n
balanced_last n (facing b i is) m h = omega (arith, h)
balanced_last n (over s) m h = h

-- at most an event more than answers were taken
pub events_few :
    (ctx : Context) (bs : List (Block Instr)) (σ : Store) (xs : List Answer) (k : ℕ) →
    let m = (steps ctx bs k (start bs σ xs)).mach in
    length m.events + length m.answers ≤ suc (length xs)
unfolding start
events_few ctx bs σ xs k =
    let c = steps ctx bs k (start bs σ xs) in
    balanced_last (length xs) c.stand c.mach
    (steps_balanced (length xs) ctx bs k (start bs σ xs)
    (even_balanced (length xs) (start bs σ xs).stand (start bs σ xs).mach (omega arith)))

-- ---- the bytes of an event
pub words_size : (v : Val) → length (words v) ≤ 16
unfolding words join
words_size (int w) = omega (arith, length_be 8 w)
words_size (float b) = omega (arith, length_be 8 b)
words_size (literal w) = omega (arith, length_be 8 w)
words_size (char c) = omega (arith, length_be 8 c)
words_size (bool b) = omega (arith, length_be 8 (cond b 1 0))
words_size (pointer t b o) =
    omega (arith, length_be 8 b, length_be 8 o, length-append (be 8 b) (be 8 o ++ []), length-append (be 8 o) [])

pub value_size : (v : Val) → length (value_bytes v) ≤ 17
unfolding value_bytes join
value_size v =
    omega (arith, words_size v, length_be 1 (type_byte v), length-append (be 1 (type_byte v)) (words v ++ []), length-append (words v) [])

values_size : (vs : List Val) → length (join (map value_bytes vs)) ≤ 17 * length vs
unfolding join
values_size [] = omega arith
values_size (v ∷ vs) = omega (arith, value_size v, values_size vs, length-append (value_bytes v) (join (map value_bytes vs)))

pub event_size : (w : ℕ) (e : Event) → length (event_bytes w e) ≤ w + 4 + 17 * length e.args
unfolding event_bytes join
event_size w e =
    let vs = join (map value_bytes e.args) in
    let n = be 1 (length e.args) in
    omega (
      arith,
      values_size e.args,
      length_be w e.id,
      length_be 1 e.code,
      length_be 2 e.callee,
      length_be 1 (length e.args),
      length-append (be w e.id) (be 1 e.code ++ (be 2 e.callee ++ (n ++ (vs ++ [])))),
      length-append (be 1 e.code) (be 2 e.callee ++ (n ++ (vs ++ []))),
      length-append (be 2 e.callee) (n ++ (vs ++ [])),
      length-append n (vs ++ []),
      length-append vs [],
    )

-- those of events one after the other
pub events_append : (w : ℕ) (es fs : List Event) → events_bytes w (es ++ fs) ≡ events_bytes w es ++ events_bytes w fs
unfolding events_bytes join
events_append w [] fs = refl
events_append w (e ∷ es) fs =
    ap (λ (l : List ℕ). event_bytes w e ++ l) (events_append w es fs)
    ∙ sym (append_assoc (event_bytes w e) (events_bytes w es) (events_bytes w fs))

-- ---- the bytes of a store
held_size : (o : Option Val) → length (stored_bytes o) ≤ 17
unfolding stored_bytes
held_size none = omega (arith, length_be 1 nothing_byte)
held_size (some v) = value_size v

all_held_size : (vs : List (Option Val)) → length (join (map stored_bytes vs)) ≤ 17 * length vs
unfolding join
all_held_size [] = omega arith
all_held_size (o ∷ vs) = omega (arith, held_size o, all_held_size vs, length-append (stored_bytes o) (join (map stored_bytes vs)))

-- length and version, and 17 bytes a name: 4,357 for 256
pub store_most : (vs : List (Option Val)) → length (store_bytes vs) ≤ 5 + 17 * length vs
unfolding store_bytes form_bytes
store_most vs =
    let items = join (map stored_bytes vs) in
    let rest = be 1 1 ++ items in
    omega (arith, all_held_size vs, length_be 4 (length rest), length-append (be 4 (length rest)) rest, length_be 1 1, length-append (be 1 1) items)

-- ---- "argument count 0 to 8": the values of an event
abbrev asked : Form → List NameIx → List NameIx
asked (pure e) ys = ys
asked (new xs) ys = xs
asked (effect xs) ys = xs
asked (return xs) ys = xs
asked nop ys = ys
asked (jump b) ys = ys
asked (branch a b c) ys = ys

form_asked : (t : NameIx → ℕ) (i : Instr) {f : Form} → FormOf t i f → asked f i.args ≡ i.args
form_asked t i (of_constant e) = refl
form_asked t i (of_one o e) = refl
form_asked t i (of_two o e) = refl
form_asked t i of_new = refl
form_asked t i (of_jump e) = refl
form_asked t i (of_branch e) = refl
form_asked t i (of_return e) = refl
form_asked t i (of_nop e) = refl
form_asked t i of_effect = refl

pub read_all_length : (σ : Store) (xs : List NameIx) (vs : List Val) → read_all σ xs ≡ some vs → length vs ≡ length xs
unfolding read_all
read_all_length σ [] vs e = let z : [] ≡ vs = cc e in ap length (sym z)
read_all_length σ (x ∷ xs) vs e = go (σ x) (read_all σ xs) (λ us h. read_all_length σ xs us h) e
  where
    go :
        (o : Option Val) (p : Option (List Val)) → ((us : List Val) → p ≡ some us → length us ≡ length xs) →
        read_cons o p ≡ some vs → length vs ≡ suc (length xs)
    go none p h e = clash (cc e)
    go (some v) none h e = clash (cc e)
    go (some v) (some us) h e =
        let z : v ∷ us ≡ vs = cc e in
        ap length (sym z) ∙ ap suc (h us refl)

abbrev pub FewValues : List Event → Type 0
FewValues es = Each (λ left e. length e.args ≤ 8) es

and_last : (es : List Event) (e : Event) → FewValues es → length e.args ≤ 8 → FewValues (es ++ (e ∷ []))
and_last [] e h k = (k, tt)
and_last (x ∷ es) e h k = (h.0, and_last es e h.1 k)

module _ (ctx : Context) (i : Instr) where
  -- as many as its instruction has arguments
  pub shown_length : (σ : Store) (vs : List Val) → Shows ctx i σ vs → length vs ≡ length i.args
  shown_length σ vs h = go h
    where
      of_form : (f : Form) → form ctx.types i ≡ f → asked f i.args ≡ i.args
      of_form f e = subst (λ (g : Form). asked g i.args ≡ i.args) e (form_asked ctx.types i (form_of ctx.types i))

      go : Shows ctx i σ vs → length vs ≡ length i.args
      go (in_new xs f e) = read_all_length σ xs vs e ∙ ap length (of_form (new xs) f)
      go (in_effect xs f e) = read_all_length σ xs vs e ∙ ap length (of_form (effect xs) f)
      go (in_return xs f e) = read_all_length σ xs vs e ∙ ap length (of_form (return xs) f)

  few_kept : length i.args ≤ 8 → Keeps ctx i (λ m. FewValues m.events)
  unfolding tick assign happens
  few_kept l =
      record {
        ticked = λ m h. h;
        assigned = λ m v g h. h;
        added = λ m vs xs s r h. and_last m.events (event_of i vs) h (omega (arith, l, shown_length m.store vs s));
      }

-- ---- the instructions of an accepted function
instr_few : (N B left : ℕ) (i : Instr) → InstrOk N B left i → length i.args ≤ 8
instr_few N B left i h =
    let sh = shape_of i.code in
    args_few N sh i.args (not sh.literal) (few_enough i.code (code_known (eqb left 0) i.code h.code)) h.rest.args

abbrev FewIn : List Instr → Type 0
FewIn is = Each (λ left i. length i.args ≤ 8) is

body_few : (N B : ℕ) (is : List Instr) → Each (InstrOk N B) is → FewIn is
body_few N B [] h = tt
body_few N B (i ∷ is) h = (instr_few N B (length is) i h.0, body_few N B is h.1)

blocks_few : (N B : ℕ) (bs : List (Block Instr)) → Each (λ left b. BlockOk limits N B b) bs → Each (λ left b. FewIn b.body) bs
blocks_few N B [] h = tt
blocks_few N B (b ∷ bs) h = (body_few N B b.body h.0.body, blocks_few N B bs h.1)

events_size : (w : ℕ) (es : List Event) → w ≤ 8 → FewValues es → length (events_bytes w es) ≤ 148 * length es
unfolding events_bytes join
events_size w [] l h = omega arith
events_size w (e ∷ es) l h =
    let r = join (map (event_bytes w) es) in
    omega (arith, l, h.0, event_size w e, events_size w es l h.1, length-append (event_bytes w e) r)

module _ (s : List ℕ) (r : Record Placed) (p : ℕ) (accepted : accept limits s ≡ got r p) (σ : Store) (xs : List Answer) (k : ℕ) where
  abbrev left : Mach
  left = let f = function (plain r) in (steps (plain_machine f) f.blocks k (start f.blocks σ xs)).mach

  -- no event has more than eight values
  pub events_values : FewValues left.events
  events_values =
      let f = function (plain r) in
      let ok = read_ok limits s r p (accept_typed limits s r p accepted).reads in
      steps_keep (plain_machine f) (λ m. FewValues m.events) (λ i. length i.args ≤ 8)
      (λ i l. few_kept (plain_machine f) i l) f.blocks (blocks_few _ _ (plain r).blocks ok.blocks) k σ xs tt

  -- 148 bytes suffice for each, of which there is at most one more than there are answers
  pub events_room : length (events_bytes (id_bytes r.version) left.events) ≤ 148 * suc (length xs)
  events_room =
      let f = function (plain r) in
      omega (
        arith,
        events_size (id_bytes r.version) left.events (id_bytes_are r.version).1 events_values,
        events_few (plain_machine f) f.blocks σ xs k,
      )
