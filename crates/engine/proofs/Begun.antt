-- What a call begins with: check's refusal, a store and a list of answers that read or not, and the run at its start.
use Prim.Native.Nat.{ℕ, suc, ◌<◌, ◌≤◌}
use mathlib.Core.Path.{◌≡◌, refl, sym, ap, ◌∙◌}
use mathlib.Core.List.{List, []}
use mathlib.Core.Bool.{Bool, true, false, not, ◌&&◌}
use mathlib.Core.Option.{Option}
use native.Mathlib.Omega.{arith}
use lib.ListN.{length}
use Rattle.arith.specs.Value.{Val}
use Rattle.std.proofs.Common.{Option as CodeOption, None, Some, Result, Ok, Err}
use Rattle.record.specs.declared.Fault.{Fault}
use Rattle.record.specs.Record.{Instr, Block, Function, function, plain, names_of, id_bytes}
use Rattle.record.specs.Reader.{Res, got, fault}
use Rattle.record.specs.Answer.{checked}
use Rattle.record.specs.Decode.{items, id_width}
use Rattle.record.proofs.Judged.{refused_as}
use Rattle.machine.specs.Machine.{plain_machine, Answer}
use Rattle.running.specs.declared.RunError.TheVariants.{Refused, Unfit}
use Rattle.running.specs.Steps.{land, steps, start}
use Rattle.running.specs.House.{stored, answers, of_types, holding}
use Rattle.running.specs.Items.{answer_from, answer_end}
use Rattle.running.specs.Engine.{unfit_within, starting, running_for, lets_pass, Ran, engine}
use Rattle.running.proofs.Engine.{Given}
use Rattle.running.proofs.Cases.{engine_refuses, store_unread, answers_unread, engine_unfit}
use Rattle.running.proofs.Lent.{is_done, untouched}
use Rattle.engine_cells.specs.declared.Cells.{Cells}
use Rattle.engine_cells.specs.Cells.{store_in}
use Rattle.read_fields.specs.Opens.{longest_form}
use Rattle.engine_house.specs.Reads.{FitAs, StoreAs, ListAs}
use Rattle.engine_quiet.specs.declared.Ground.{Ground}
use Rattle.engine_quiet.specs.declared.Over.{Over}
use Rattle.engine_quiet.specs.declared.Spot.{Spot}
use Rattle.engine_quiet.specs.Spot.{blocks_of, told_types, Landed}
use Rattle.engine_events.specs.declared.Turn.{Turn}
use Rattle.engine_events.specs.Turn.{config_in, ahead_of, events_ahead}
use Rattle.engine_steps.specs.Came.{steps_of, unfit_of}
use Rattle.engine.specs.Opened.{Opened, Begun, Engine}

-- ---- nothing is written where a call is not done
module _ (s store list : List ℕ) (limit : ℕ) (events left : List ℕ) where
  pub stays : (r : Ran) → is_done r ≡ false → engine s store list limit events left ≡ r → Engine s store list limit events left events left r
  stays r d e =
      let u = untouched s store list limit events left (ap is_done e ∙ d) in
      record { answer = sym e; events_are = sym u.0; store_is = sym u.1 }

  pub refuses : (f : Fault) → checked s ≡ Err f → Engine s store list limit events left events left (Err (Refused f))
  refuses f h = stays (Err (Refused f)) refl (engine_refuses s store list limit events left f.refusal f.offset (refused_as s f h))

-- ---- the list of answers
module _ (g : Ground) where
  abbrev list : List ℕ
  list = g.list.now

  pub answers_refused :
      Opened g → ListAs list (answers list 0) None → (store : List ℕ) (limit : ℕ) (events left : List ℕ) →
      Engine g.s.now store list limit events left events left (Err Unfit)
  unfolding ListAs
  answers_refused o h store limit events left = go (answers list 0) refl h
    where
      go :
          (v : Res (List Answer)) → answers list 0 ≡ v → ListAs list v None →
          Engine g.s.now store list limit events left events left (Err Unfit)
      go (got xs p) e h = absurd (cc h.are)
      go (fault k q) e h =
          stays g.s.now store list limit events left (Err Unfit) refl
          (answers_unread g.s.now store list limit events left o.it o.end o.accepted k q e)

ahead_few : (r : Result Spot Over) (n : ℕ) → ahead_of r n ≤ suc n
ahead_few (Ok p) n = omega arith
ahead_few (Err k) n = omega arith

module _ (g : Ground) where
  -- r: where the run lands at its start
  pub begun :
      (n limit : ℕ) (r : Result Spot Over) → ListAs (list g) (answers (list g) 0) (Some n) → Landed g (land (blocks_of g) 0) r →
      Begun g (record { spot = r; more = limit; answer = 5; answers = n; event = 0; tells = false })
  unfolding ListAs
  begun n limit r h l = go (answers (list g) 0) refl h
    where
      t : Turn
      t = record { spot = r; more = limit; answer = 5; answers = n; event = 0; tells = false }

      go : (v : Res (List Answer)) → answers (list g) 0 ≡ v → ListAs (list g) v (Some n) → Begun g t
      go (got xs q) e h =
          let m : h.count ≡ n = cc h.are in
          let few : n ≤ length (list g) = omega (arith, m, h.few) in
          let short : length (list g) < longest_form = h.short in
          let ahead : events_ahead t ≤ suc n = ahead_few r n in
          record {
            told = xs;
            end = q;
            reads = e;
            those = h.those ∙ ap (items (answer_from (list g)) (answer_end (list g)) 5) m;
            stand = l.stand;
            ready =
                record {
                  standing = l.standing;
                  sure = rw m at h.sure;
                  answers = omega (arith, few, short);
                  events = omega (arith, few, short, ahead);
                };
            fits = l.stop;
            first = refl;
            waits = refl;
          }
      go (fault k o) e h = absurd (cc h)

-- ---- the store; cells: those that were filled from it, t: the run at its start
-- inputs that read, the store's values each of its name's type: the machine from them and the code at its start have the same run
pub record Fed (g : Ground) (store : List ℕ) (cells : Cells 256) (t : Turn) : Type 0 where
  pub given : Given g.s.now store g.list.now
  pub width : id_bytes given.rec.version ≡ id_width g.s.now
  pub names : names_of (function (plain given.rec)) ≡ length g.types.now
  pub runs :
      running_for t.more (function (plain given.rec)) given.values given.told ≡
      steps_of g t.more (config_in g cells t)
  pub passes :
      lets_pass t.more (function (plain given.rec)) given.values given.told ≡
      not (unfit_of g t.more (config_in g cells t))

module _ (g : Ground) (store : List ℕ) (t : Turn) (o : Opened g) (b : Begun g t) where
  abbrev s : List ℕ
  s = g.s.now

  abbrev types : List ℕ
  types = g.types.now

  abbrev f : Function
  f = function (plain o.it)

  many : names_of f ≡ length types
  many = ap length (sym o.types_are)

  abbrev given_by : (vs : List (Option Val)) (p : ℕ) → stored (names_of f) store 0 ≡ got vs p → Given s store (list g)
  given_by vs p e =
      record {
        rec = o.it;
        rec_end = o.end;
        values = vs;
        values_end = p;
        told = b.told;
        told_end = b.end;
        accepted = o.accepted;
        store_reads = e;
        list_reads = b.reads;
      }

  typed_as : (vs : List (Option Val)) (c : Bool) → of_types types vs ≡ c → of_types f.types vs ≡ c
  typed_as vs c e = ap (λ (ts : List ℕ). of_types ts vs) (sym o.types_are) ∙ e

  pub store_refused :
      (cells : Cells 256) → StoreAs types (stored (length types) store 0) cells None → (events left : List ℕ) →
      Engine s store (list g) t.more events left events left (Err Unfit)
  unfolding StoreAs FitAs
  store_refused cells h events left =
      stays s store (list g) t.more events left (Err Unfit) refl
      (go (stored (length types) store 0) (ap (λ (n : ℕ). stored n store 0) many) h)
    where
      go :
          (v : Res (List (Option Val))) → stored (names_of f) store 0 ≡ v → StoreAs types v cells None →
          engine s store (list g) t.more events left ≡ Err Unfit
      go (got vs p) e h = by (of_types types vs) refl h
        where
          by : (c : Bool) → of_types types vs ≡ c → FitAs c vs cells None → engine s store (list g) t.more events left ≡ Err Unfit
          by true q k = absurd (cc k.0)
          by false q k =
              engine_unfit s store (list g) t.more events left (given_by vs p e)
              (ap (λ (x : Bool). x && not (unfit_within (plain_machine f) f.blocks t.more (starting f vs b.told))) (typed_as vs false q))
      go (fault k q) e h = store_unread s store (list g) t.more events left o.it o.end o.accepted k q e

  module _ (cells : Cells 256) where
    starts_there : (vs : List (Option Val)) → store_in cells ≡ holding vs → starting f vs b.told ≡ config_in g cells t
    unfolding start
    starts_there vs held =
        let stand = ap (λ (bs : List (Block Instr)). land bs 0) o.blocks_are ∙ sym b.stand in
        λ i. record { stand = stand i; mach = record { store = sym held i; answers = b.those i; events = []; steps = 0 } }

    fed_by :
        (vs : List (Option Val)) (p : ℕ) → stored (names_of f) store 0 ≡ got vs p → of_types types vs ≡ true →
        store_in cells ≡ holding vs → Fed g store cells t
    fed_by vs p e q held =
        let typed : of_types f.types vs ≡ true = typed_as vs true q in
        let there = starts_there vs held in
        record {
          given = given_by vs p e;
          width = o.width;
          names = many;
          runs = λ i. steps (told_types (sym o.types_are i)) (o.blocks_are i) t.more (there i);
          passes =
              λ i. typed i && not (unfit_within (told_types (sym o.types_are i)) (o.blocks_are i) t.more (there i));
        }

    pub fed : {r : CodeOption Unit} {u : Unit} → StoreAs types (stored (length types) store 0) cells r → r ≡ Some u → Fed g store cells t
    unfolding StoreAs FitAs
    fed {r} {u} h e = go (stored (length types) store 0) (ap (λ (n : ℕ). stored n store 0) many) h
      where
        go : (v : Res (List (Option Val))) → stored (names_of f) store 0 ≡ v → StoreAs types v cells r → Fed g store cells t
        go (got vs p) q h = by (of_types types vs) refl h
          where
            by : (c : Bool) → of_types types vs ≡ c → FitAs c vs cells r → Fed g store cells t
            by true u k = fed_by vs p q u k.1
            by false u k = absurd (cc (k, e))
        go (fault k o) q h = absurd (cc (h, e))
