-- What comes of the world's answer: each way in which the code leaves it is the machine's.
use Prim.Native.Nat.{ℕ, suc, ◌+◌, ◌-◌, ◌*◌, ◌<◌, ◌≤◌}
use mathlib.Core.Path.{◌≡◌, refl, sym, ap, ◌∙◌, subst}
use mathlib.Core.Logic.{◌≢◌}
use mathlib.Core.List.{List, [], ◌∷◌}
use mathlib.Core.Bool.{Bool, true, false}
use native.Mathlib.Omega.{arith}
use native.Mathlib.Numerals.{add-one}
use Rattle.std.proofs.Common.{Result, Ok, Err}
use Rattle.record.specs.declared.NameIx.{NameIx}
use Rattle.record.specs.Record.{type_in}
use Rattle.record.specs.Decode.{id_width, items, index_from, instr_end}
use Rattle.machine.specs.Machine.{Store, Answer, halt, Event, goes, tick}
use Rattle.running.specs.Items.{answer_from, answer_end}
use Rattle.running.specs.Steps.{first_of, land, moved, shifted}
use Rattle.engine_cells.specs.declared.Cells.{Cells}
use Rattle.engine_cells.specs.Cells.{store_in}
use Rattle.engine_house.specs.declared.Answer.{Answer as Told}
use Rattle.engine_house.specs.declared.Answer.TheVariants as told
use Rattle.engine_house.specs.Reads.{Sure, answer_there, answer_of, end_of}
use Rattle.engine_house.proofs.Again.{answer_again, end_again}
use Rattle.engine_quiet.specs.declared.Spot.{Spot}
use Rattle.engine_quiet.specs.declared.Ground.{Ground}
use Rattle.engine_quiet.specs.declared.Over.{Over}
use Rattle.engine_quiet.specs.declared.Over.TheVariants.{Halt, Unfit}
use Rattle.engine_quiet.specs.Spot.{stop_by, body_at, blocks_of, code_at, stand_of, Landed}
use Rattle.engine_events.specs.declared.Turn.{Turn}
use Rattle.engine_events.specs.Turn.{most_event, most_answer, far, answers_left, config_in, ahead_of, instr_at, Ready, Going, Loud}
use Rattle.engine_events.specs.Replies.{has_dest, reply, fits_reply, given, Answered}
use Rattle.engine_events.proofs.Operands.{dest_is}
use Rattle.engine_events.proofs.Answers.{answers_none, answers_more, sure_first, sure_rest, fits_first, fits_none, fits_halt, reply_none, reply_halt, behind_answer, reply_goes}
use Rattle.engine_events.proofs.Over.{over_turn, ready_over, over_told}

-- ---- a dest matters only where there is one
same_fits :
    (types : List ℕ) (xs : List Answer) (b : Bool) (d c : NameIx) → (b ≡ true → d ≡ c) →
    fits_reply b (type_in types d) xs ≡ fits_reply b (type_in types c) xs
unfolding fits_reply
same_fits types xs true d c e = ap (λ (x : NameIx). fits_reply true (type_in types x) xs) (e refl)
same_fits types xs false d c e = refl

same_given : (x : Answer) (σ : Store) (b : Bool) (d c : NameIx) → (b ≡ true → d ≡ c) → given b x σ d ≡ given b x σ c
unfolding given
same_given x σ true d c e = ap (given true x σ) (e refl)
same_given x σ false d c e = refl

-- the events that can still come where an answer was taken
ahead : (q : Result Spot Over) (n : ℕ) → 0 < n → ahead_of q (n - 1) ≤ n
ahead (Ok p) n h = omega arith
ahead (Err k) n h = omega arith

was_halt : (x : Told) → answer_of x ≡ halt → x ≡ told.Halt
was_halt told.GoOn e = absurd (cc e)
was_halt told.Halt e = refl
was_halt (told.Value c) e = absurd (cc e)

module _ (g : Ground) (before : Cells 256) (event : ℕ) (p : Spot) (t : Turn)
    (going : Going g p t) (loud : Loud g.s.now p.at) (room : event + most_event * t.answers ≤ far) where
  abbrev s : List ℕ
  s = g.s.now

  abbrev types : List ℕ
  types = g.types.now

  abbrev list : List ℕ
  list = g.list.now

  abbrev ready : Ready g t
  ready = going.ready

  abbrev at : ℕ
  at = p.at

  abbrev dest : Bool
  dest = has_dest (code_at s at)

  abbrev type : ℕ
  type = type_in types (instr_at s at).dest

  -- no answer is left
  pub answered_none : t.answers ≡ 0 → Answered g before before event p t (over_turn Halt event t.answer t.answers t)
  unfolding stop_by
  answered_none z =
      let none_left = answers_none list t.answer t.answers z in
      record {
        ready = ready_over g Halt event t.answer t.answers t ready.sure ready.answers (omega (arith, room));
        more = refl;
        tells = refl;
        told = refl;
        unfit = λ e. absurd (cc e);
        fit = λ n.
            record {
              fits = fits_none dest type (answers_left list t) none_left;
              goes = λ e.
                  ap (moved (blocks_of g) p.block (body_at s (instr_end (id_width s) s at) (p.left - 1)))
                  (reply_none dest type (instr_at s at) (tick (config_in g before t).mach) e (answers_left list t) none_left) ∙
                  over_told g before p.block (body_at s (instr_end (id_width s) s at) (p.left - 1))
                  Halt event t.answer t.answers t e;
            };
      }

  -- an answer is taken, which ends at k
  module _ (some_left : 0 < t.answers) (x : Told) (ex : x ≡ answer_there list t.answer) (k : ℕ) (e : k ≡ end_of x t.answer)
      (near : k ≤ t.answer + 17) where
    is : answer_of x ≡ answer_from list t.answer
    is = ap answer_of ex ∙ answer_again list t.answer (sure_first list t.answer t.answers some_left ready.sure)

    ends_at : k ≡ answer_end list t.answer
    ends_at = e ∙ ap (λ (y : Told). end_of y t.answer) ex ∙ end_again list t.answer

    abbrev rest : List Answer
    rest = items (answer_from list) (answer_end list) k (t.answers - 1)

    left_are : answers_left list t ≡ answer_from list t.answer ∷ rest
    left_are =
        answers_more list t.answer t.answers some_left ∙
        ap (λ (p : ℕ). answer_from list t.answer ∷ items (answer_from list) (answer_end list) p (t.answers - 1)) (sym ends_at)

    sure_left : Sure list k (t.answers - 1)
    sure_left = subst (λ (p : ℕ). Sure list p (t.answers - 1)) (sym ends_at) (sure_rest list t.answer t.answers some_left ready.sure)

    within : k + most_answer * (t.answers - 1) ≤ far
    within = omega (arith, near, some_left, ready.answers)

    over_ready : (stop : Over) → Ready g (over_turn stop event k (t.answers - 1) t)
    over_ready stop = ready_over g stop event k (t.answers - 1) t sure_left within (omega (arith, room))

    pub answered_halt : x ≡ told.Halt → Answered g before before event p t (over_turn Halt event k (t.answers - 1) t)
    unfolding stop_by
    answered_halt h =
        let halts : answers_left list t ≡ halt ∷ rest =
        left_are ∙ ap (λ (x : Answer). x ∷ rest) (sym is ∙ ap answer_of h) in
        record {
          ready = over_ready Halt;
          more = refl;
          tells = refl;
          told = refl;
          unfit = λ e. absurd (cc e);
          fit = λ n.
              record {
                fits = fits_halt dest type (answers_left list t) rest halts;
                goes = λ e.
                    ap (moved (blocks_of g) p.block (body_at s (instr_end (id_width s) s at) (p.left - 1)))
                    (reply_halt dest type (instr_at s at) (tick (config_in g before t).mach) e (answers_left list t) rest halts) ∙
                    over_told g before p.block (body_at s (instr_end (id_width s) s at) (p.left - 1))
                    Halt event k (t.answers - 1) t e;
              };
        }

    -- what takes said of it; w: the bytes of an id, has: whether there is a dest
    module _ (w : ℕ) (has : Bool) (ew : w ≡ id_width s) (eh : has ≡ dest) (b : Bool)
        (eb : b ≡ fits_reply has (type_in types (index_from s (at + w + 1))) (answer_of x ∷ [])) where
      said : fits_reply dest type (answers_left list t) ≡ b
      said =
          ap (fits_reply dest type) left_are ∙ fits_first dest type (answer_from list t.answer) rest ∙
          same_fits types (answer_from list t.answer ∷ []) dest (instr_at s at).dest (index_from s (at + id_width s + 1)) (dest_is loud) ∙
          sym (λ i. fits_reply (eh i) (type_in types (index_from s (at + ew i + 1))) (answer_from list t.answer ∷ [])) ∙
          sym (eb ∙ (λ i. fits_reply has (type_in types (index_from s (at + w + 1))) (is i ∷ [])))

      pub answered_unfit :
          (after : Cells 256) → b ≡ false → Answered g before after event p t (over_turn Unfit event k (t.answers - 1) t)
      answered_unfit after f =
          record {
            ready = over_ready Unfit;
            more = refl;
            tells = refl;
            told = refl;
            unfit = λ e. said ∙ f;
            fit = λ n. absurd (n refl);
          }

      module _ (after : Cells 256) (q : Result Spot Over) (next : ℕ) (f : b ≡ true) (h : x ≢ told.Halt) (en : next ≡ instr_end (id_width s) s at)
          (store : b ≡ true → store_in after ≡ given has (answer_of x) (store_in before) (index_from s (at + w + 1)))
          (landed :
          Landed g
          (first_of p.block (body_at s next (p.left - 1)) (land (blocks_of g) (p.block + 1))) q) where
        abbrev gone : ℕ → ℕ → Turn
        gone answer answers =
            record { spot = q; more = t.more; answer = answer; answers = answers; event = event; tells = t.tells }

        stored : given dest (answer_from list t.answer) (store_in before) (instr_at s at).dest ≡ store_in after
        stored =
            same_given (answer_from list t.answer) (store_in before) dest (instr_at s at).dest (index_from s (at + id_width s + 1)) (dest_is loud) ∙
            sym (λ i. given (eh i) (answer_from list t.answer) (store_in before) (index_from s (at + ew i + 1))) ∙
            sym (store f ∙ (λ i. given has (is i) (store_in before) (index_from s (at + w + 1))))

        there : stand_of s q ≡ first_of p.block (body_at s (instr_end (id_width s) s at) (p.left - 1)) (land (blocks_of g) (suc p.block))
        there =
            landed.stand ∙
            (λ i. first_of p.block (body_at s (en i) (p.left - 1)) (land (blocks_of g) (add-one p.block i)))

        went :
            (e : Event) →
            moved (blocks_of g) p.block (body_at s (instr_end (id_width s) s at) (p.left - 1))
            (goes (behind_answer dest type (instr_at s at) (tick (config_in g before t).mach) e (answer_from list t.answer) rest)) ≡
            shifted (e ∷ []) 1 (config_in g after (gone k (t.answers - 1)))
        unfolding tick
        went e =
            λ i.
            record {
              stand = sym there i;
              mach = record { store = stored i; answers = rest; events = e ∷ []; steps = 1 };
            }

        pub answered_goes : Answered g before after event p t (gone k (t.answers - 1))
        answered_goes =
            record {
              ready =
                  record {
                    standing = landed.standing;
                    sure = sure_left;
                    answers = within;
                    events = omega (arith, room, ahead q t.answers some_left);
                  };
              more = refl;
              tells = refl;
              told = refl;
              unfit = λ e. absurd (landed.stop e);
              fit = λ n.
                  record {
                    fits = said ∙ f;
                    goes = λ e.
                        ap (moved (blocks_of g) p.block (body_at s (instr_end (id_width s) s at) (p.left - 1)))
                        (ap (reply dest type (instr_at s at) (tick (config_in g before t).mach) e) left_are ∙
                        reply_goes dest type (instr_at s at) (tick (config_in g before t).mach) e (answer_from list t.answer) rest
                        (sym (fits_first dest type (answer_from list t.answer) rest) ∙ ap (fits_reply dest type) (sym left_are) ∙ said ∙ f)
                        (λ q. h (was_halt x (is ∙ q)))) ∙
                        went e;
                  };
            }
