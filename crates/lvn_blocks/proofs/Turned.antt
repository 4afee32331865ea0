-- One instruction of a block done, and then the rest: laws of the loop over a block.
use Prim.Native.Nat.{ℕ, suc, ◌+◌, ◌-◌, ◌*◌, ◌<◌, ◌≤◌}
use mathlib.Core.Path.{◌≡◌, refl, sym, ap, ◌∙◌, subst}
use mathlib.Core.List.{List, [], ◌∷◌, ◌++◌, append_assoc, map-append}
use native.Mathlib.Omega.{arith}
use Rattle.record.specs.declared.NameIx.{NameIx}
use Rattle.record.specs.Record.{Instr}
use Rattle.record.specs.Good.{InstrOk}
use Rattle.record.specs.View.{instr_of}
use Rattle.record.specs.Write.{join}
use Rattle.record.specs.Decode.{items, behind, instr_from, instr_end}
use Rattle.record.specs.Again.{instrs_from, instrs_end, Passes, Passing}
use Rattle.record.specs.Sizes.{longest_instr, longest_lines, places_end}
use Rattle.record.proofs.Again.{instrs_more, end_more}
use Rattle.numbering.specs.State.{State}
use Rattle.numbering.specs.Number.{Emitted as EmittedAs, Numbered, prepend, instr_lvn, block_lvn, saved_in}
use Rattle.numbering.proofs.Codes.{instr_original}
use Rattle.numbering.proofs.Saves.{Emits, instr_emits}
use Rattle.write_bytes.specs.Put.{put, Wrote}
use Rattle.write_bytes.proofs.Wrote.{Rest, rest_all, rest_less, rest_none}
use Rattle.read_instrs.specs.declared.Read.{Read}
use Rattle.read_instrs.specs.Again.{ReadAgain}
use Rattle.lvn_state.specs.View.{saves_of}
use Rattle.lvn_state.specs.Room.{room}
use Rattle.lvn_state.proofs.Room.{Grows, instr_grows}
use Rattle.lvn_instr.specs.declared.Emitted.{Emitted}
use Rattle.lvn_instr.specs.View.{emitted_of}
use Rattle.read_layout.specs.declared.Layout.{Layout}
use Rattle.read_layout.specs.declared.Spot.{Spot}
use Rattle.lvn_blocks.specs.Block.{body_bytes, saved_by, indexes, lines}
use Rattle.lvn_blocks.specs.Block.{Asks, Turned, body_of, temps_of, Done}
use Rattle.lvn_blocks.proofs.Accepted.{reads_low}
use Rattle.lvn_blocks.proofs.Lines.{body_append, saved_append, emitted_noted}

-- ---- one instruction
module _ {N B left : ℕ} (ty : NameIx → ℕ) (s : State) (i : Instr) (h : InstrOk N B left i) where
  pub lvn_emits : Emits N s.temps i (instr_lvn N ty s i)
  lvn_emits = instr_emits N ty s i (instr_original N B left ty i h)

  -- it keeps its id
  pub lvn_id : (b : ℕ) → i.id < b → (instr_lvn N ty s i).instr.id < b
  lvn_id b l = subst (λ (n : ℕ). n < b) (sym lvn_emits.id) l

module _
    (F : Layout) {B left : ℕ} {s : List ℕ} (ty : NameIx → ℕ) (at : Spot) (g : Read) (st st' : State) (e : Emitted)
    (h : InstrOk F.names B left (instr_from F.width s at.p))
    (again : ReadAgain F.width s at.p g)
    (done : emitted_of st' e ≡ instr_lvn F.names ty st (instr_of g.instr))
  where
    emitted : emitted_of st' e ≡ instr_lvn F.names ty st (instr_from F.width s at.p)
    emitted = done ∙ ap (instr_lvn F.names ty st) again.instr

    pub turned :
        {made made' out out' : List ℕ} {q : ℕ} →
        made' ≡ put made st.temps (saved_by (saves_of e.made (instr_of e.instr))) →
        Wrote out out' at.q q (body_bytes F.width (saves_of e.made (instr_of e.instr) ++ (instr_of e.instr ∷ []))) →
        q ≤ at.q + longest_lines →
        Turned F s ty at (record { p = g.next; q = q }) st st' made made' out out'
    turned {made} {made'} {out} {out'} {q} m o c =
        let i = instr_from F.width s at.p in
        let x = instr_lvn F.names ty st i in
        let k : st'.temps ≡ x.state.temps = ap (λ (y : EmittedAs). y.state.temps) emitted in
        let a : Wrote made made' st.temps x.state.temps (indexes (saved_in F.names (lines x))) =
        emitted_noted F.names ty i x (instr_original F.names B left ty i h) (lvn_emits ty st i h)
        (m ∙ ap (λ (y : EmittedAs). put made st.temps (saved_by y.saves)) emitted) in
        record {
          state = ap (λ (y : EmittedAs). y.state) emitted;
          written = subst (λ (y : EmittedAs). Wrote out out' at.q q (body_bytes F.width (lines y))) emitted o;
          noted = subst (λ (n : ℕ). Wrote made made' st.temps n (indexes (saved_in F.names (lines x)))) (sym k) a;
          next = again.next;
          near = again.near;
          close = c;
        }

-- ---- a block by its first instruction
module _ (F : Layout) (s : List ℕ) (ty : NameIx → ℕ) (st : State) (p n : ℕ) (h : 0 < n) where
  abbrev first : EmittedAs
  first = instr_lvn F.names ty st (instr_from F.width s p)

  abbrev rest : Numbered
  rest = block_lvn F.names ty first.state (instrs_from F.width s (instr_end F.width s p) (n - 1))

  block_more : block_lvn F.names ty st (instrs_from F.width s p n) ≡ prepend first rest
  unfolding block_lvn
  block_more = ap (block_lvn F.names ty st) (instrs_more F.width s p n h)

  temps_more : temps_of F s ty st p n ≡ rest.temps
  temps_more = ap (λ (b : Numbered). b.temps) block_more

  body_more : body_of F s ty st p n ≡ lines first ++ rest.body
  body_more = ap (λ (b : Numbered). b.body) block_more ∙ sym (append_assoc first.saves (first.instr ∷ []) rest.body)

  bytes_more : body_bytes F.width (body_of F s ty st p n) ≡ body_bytes F.width (lines first) ++ body_bytes F.width rest.body
  bytes_more = ap (body_bytes F.width) body_more ∙ body_append F.width (lines first) rest.body

  saved_more : indexes (saved_in F.names (body_of F s ty st p n)) ≡ indexes (saved_in F.names (lines first)) ++ indexes (saved_in F.names rest.body)
  saved_more =
      ap (λ (is : List Instr). indexes (saved_in F.names is)) body_more ∙ ap indexes (saved_append F.names (lines first) rest.body) ∙
      map-append (λ (x : NameIx). x.0) (saved_in F.names (lines first)) (saved_in F.names rest.body)

-- ---- the loop: what is left from here gives the whole
pub record Going
    (F : Layout) (s : List ℕ) (ty : NameIx → ℕ)
    (at₀ : Spot) (st₀ : State) (n₀ : ℕ) (made₀ out₀ : List ℕ)
    (at : Spot) (st : State) (n : ℕ) (made out : List ℕ) : Type 0 where
  pub written :
      Rest out at.q (body_bytes F.width (body_of F s ty st at.p n)) out₀ at₀.q (body_bytes F.width (body_of F s ty st₀ at₀.p n₀))
  pub noted :
      Rest made st.temps (indexes (saved_in F.names (body_of F s ty st at.p n))) made₀ st₀.temps
      (indexes (saved_in F.names (body_of F s ty st₀ at₀.p n₀)))
  pub temps : temps_of F s ty st at.p n ≡ temps_of F s ty st₀ at₀.p n₀
  pub next : instrs_end F.width s at.p n ≡ instrs_end F.width s at₀.p n₀
  pub near : at.p + longest_instr * n ≤ at₀.p + longest_instr * n₀
  pub close : at.q + longest_lines * n ≤ at₀.q + longest_lines * n₀

module _ {F : Layout} {s : List ℕ} {ty : NameIx → ℕ} {at₀ : Spot} {st₀ : State} {n₀ : ℕ} {made₀ out₀ : List ℕ} where
  pub going_all : {n : ℕ} → n ≡ n₀ → Going F s ty at₀ st₀ n₀ made₀ out₀ at₀ st₀ n made₀ out₀
  going_all e =
      subst (λ m. Going F s ty at₀ st₀ n₀ made₀ out₀ at₀ st₀ m made₀ out₀) (sym e)
      (record { written = rest_all; noted = rest_all; temps = refl; next = refl; near = omega arith; close = omega arith })

  pub going_none :
      {at : Spot} (st : State) (n : ℕ) {made out : List ℕ} → n ≡ 0 →
      Going F s ty at₀ st₀ n₀ made₀ out₀ at st n made out →
      Done F s ty at₀ at st₀ st n₀ made₀ made out₀ out
  unfolding block_lvn instrs_from instrs_end items behind body_bytes join saved_in
  going_none {at} st n z g =
      let e : body_of F s ty st at.p n ≡ [] = ap (body_of F s ty st at.p) z in
      record {
        written = rest_none _ (ap (body_bytes F.width) e) g.written;
        noted = rest_none _ (ap (λ (is : List Instr). indexes (saved_in F.names is)) e) g.noted;
        temps = ap (temps_of F s ty st at.p) (sym z) ∙ g.temps;
        next = ap (instrs_end F.width s at.p) (sym z) ∙ g.next;
        near = let a : at.p + longest_instr * n ≤ at₀.p + longest_instr * n₀ = g.near in omega arith;
        close = let a : at.q + longest_lines * n ≤ at₀.q + longest_lines * n₀ = g.close in omega arith;
      }

  -- m: one less than n
  pub going_less :
      (at r : Spot) (st st' : State) (n m : ℕ) {made made' out out' : List ℕ} → 0 < n → m ≡ n - 1 →
      Turned F s ty at r st st' made made' out out' →
      Going F s ty at₀ st₀ n₀ made₀ out₀ at st n made out →
      Going F s ty at₀ st₀ n₀ made₀ out₀ r st' m made' out'
  going_less at r st st' n m {made} {made'} {out} {out'} h one d g =
      let f = first F s ty st at.p n h in
      let b = rest F s ty st at.p n h in
      let e : block_lvn F.names ty st' (instrs_from F.width s r.p (n - 1)) ≡ b =
      λ z. block_lvn F.names ty (d.state z) (instrs_from F.width s (d.next z) (n - 1)) in
      subst (λ l. Going F s ty at₀ st₀ n₀ made₀ out₀ r st' l made' out') (sym one)
      (record {
        written =
            rest_less (body_bytes F.width (lines f)) _ _
            (bytes_more F s ty st at.p n h ∙ ap (λ (y : Numbered). body_bytes F.width (lines f) ++ body_bytes F.width y.body) (sym e))
            d.written g.written;
        noted =
            rest_less (indexes (saved_in F.names (lines f))) _ _
            (saved_more F s ty st at.p n h ∙
            ap (λ (y : Numbered). indexes (saved_in F.names (lines f)) ++ indexes (saved_in F.names y.body)) (sym e))
            d.noted g.noted;
        temps = ap (λ (y : Numbered). y.temps) e ∙ sym (temps_more F s ty st at.p n h) ∙ g.temps;
        next = ap (λ (p : ℕ). instrs_end F.width s p (n - 1)) d.next ∙ sym (end_more F.width s at.p n h) ∙ g.next;
        near = let a : at.p + longest_instr * n ≤ at₀.p + longest_instr * n₀ = g.near in let c : r.p ≤ at.p + longest_instr = d.near in omega arith;
        close = let a : at.q + longest_lines * n ≤ at₀.q + longest_lines * n₀ = g.close in let c : r.q ≤ at.q + longest_lines = d.close in omega arith;
      })

-- ---- what the next instruction asks
passing_more :
    {N : ℕ} (w : ℕ) (s : List ℕ) (p n : ℕ) → 0 < n →
    Passing N (instrs_from w s p n) →
    Passing N (instr_from w s p ∷ instrs_from w s (instr_end w s p) (n - 1))
passing_more {N} w s p n h a = subst (Passing N) (instrs_more w s p n h) a

module _ {M N : ℕ} {F : Layout} {s : List ℕ} {st : State} {at : Spot} (n : ℕ) (h : 0 < n) (a : Asks M N F s st at n) where
  pub asks_passes : Passes F.names (instr_from F.width s at.p)
  asks_passes = (passing_more F.width s at.p n h a.passing).0

  pub asks_one : Asks M N F s st at 1
  unfolding instrs_from items
  asks_one =
      record {
        width = a.width;
        some = a.some;
        maps = a.maps;
        names = a.names;
        numbers = let x : room M st + n ≤ N = a.numbers in omega (arith, h, x);
        made = let x : F.names + st.temps + n < 65535 = a.made in omega arith;
        reads = let x : at.p + longest_instr * n < places_end = a.reads in omega arith;
        writes = let x : at.q + longest_lines * n < places_end = a.writes in omega arith;
        passing = (asks_passes, tt);
      }

  module _ {ty : NameIx → ℕ} {r : Spot} {st' : State} {made made' out out' : List ℕ} (d : Turned F s ty at r st st' made made' out out') where
    abbrev behind_it : State
    behind_it = (instr_lvn F.names ty st (instr_from F.width s at.p)).state

    grows : Grows M st behind_it
    grows = instr_grows M F.names ty st (instr_from F.width s at.p) (reads_low (instr_from F.width s at.p) asks_passes.ok a.names ty)

    -- m: one less than n
    pub asks_less : (m : ℕ) → m ≡ n - 1 → Asks M N F s st' r m
    asks_less m one =
        record {
          width = a.width;
          some = a.some;
          maps = a.maps;
          names = a.names;
          numbers =
              let k : room M st' ≡ room M behind_it = ap (room M) d.state in
              let b : room M behind_it ≤ suc (room M st) = grows.room in
              let x : room M st + n ≤ N = a.numbers in
              omega (arith, h, one, k, b, x);
          made =
              let k : st'.temps ≡ behind_it.temps = ap (λ (y : State). y.temps) d.state in
              let b : behind_it.temps ≤ suc st.temps = grows.temps in
              let x : F.names + st.temps + n < 65535 = a.made in
              omega (arith, h, one, k, b, x);
          reads =
              let x : at.p + longest_instr * n < places_end = a.reads in
              let y : r.p ≤ at.p + longest_instr = d.near in
              omega arith;
          writes =
              let x : at.q + longest_lines * n < places_end = a.writes in
              let y : r.q ≤ at.q + longest_lines = d.close in
              omega arith;
          passing =
              subst (λ (l : ℕ). Passing F.names (instrs_from F.width s r.p l)) (sym one)
              (subst (λ (p : ℕ). Passing F.names (instrs_from F.width s p (n - 1))) (sym d.next) (passing_more F.width s at.p n h a.passing).1);
        }
