-- `lvn_blocks::turn_once` meets its contract.
use Prim.Native.Nat.{ℕ, ◌^◌, ◌<◌}
use mathlib.Core.Path.{◌≡◌, sym, ap, subst, ◌∙◌}
use native.Mathlib.Omega.{arith}
use Rattle.record.specs.Decode.{instr_from}
use Rattle.record.specs.Record.{Instr, type_in}
use Rattle.record.specs.View.{instr_of}
use Rattle.numbering.specs.Number.{Emitted, instr_lvn}
use Rattle.read_instrs.proofs.Again.{instr_readable}
use Rattle.write_bytes.specs.Put.{put}
use Rattle.lvn_state.specs.View.{state_of, saves_of}
use Rattle.lvn_blocks.specs.Block.{saved_by}
use Rattle.lvn_blocks.proofs.Accepted.{ready, named}
use Rattle.lvn_blocks.proofs.Turned.{lvn_id, turned, asks_passes}
use Rattle.lvn_blocks.proofs.turn_once.Goals as goal

pub read_instr-g-requires : goal.read_instr-g-requires
read_instr-g-requires _ c = let src = c.args.src.now in
    let p = c.requires in
    let ok = (asks_passes 1 (omega arith) p).ok in
    (omega (arith, p.reads), (p.width, instr_readable (instr_from src.layout.width src.reads.now c.args.at.p) ok))

pub instr_lvn-e-requires : goal.instr_lvn-e-requires
instr_lvn-e-requires _ c = let p = c.requires in
    let ok = (asks_passes 1 (omega arith) p).ok in
    let again = c.read_instr-g.ensures in
    (omega arith, (ready ok again, (named ok again p.names p.some, (omega (arith, p.numbers), (omega (arith, p.made), p.maps)))))

pub put_lines-q-requires : goal.put_lines-q-requires
unfolding instr_of
put_lines-q-requires _ c = let src = c.args.src.now in
    let w = src.layout.width in
    let p = c.requires in
    let g = c.read_instr-g in
    let e = c.instr_lvn-e in
    let st = state_of c.args.st.now in
    let ty = type_in src.types.now in
    let i = instr_from w src.reads.now c.args.at.p in
    let k : g.result.instr.id ≡ i.id = ap (λ (x : Instr). x.id) g.ensures.instr in
    let d : e.result.instr.id ≡ (instr_lvn src.layout.names ty st i).instr.id =
    ap (λ (x : Emitted). x.instr.id) e.ensures ∙ ap (λ (x : Instr). (instr_lvn src.layout.names ty st x).instr.id) g.ensures.instr in
    let id : e.result.instr.id < 256 ^ w =
    subst (λ (n : ℕ). n < 256 ^ w) (sym d)
    (lvn_id ty st i (asks_passes 1 (omega arith) p).ok (256 ^ w) (subst (λ (n : ℕ). n < 256 ^ w) k g.ensures.id)) in
    (omega (arith, p.writes), (p.width, id))

pub returns : goal.returns
returns _ c = let src = c.args.src.now in
    let g = c.read_instr-g in
    let e = c.instr_lvn-e in
    let o = c.put_lines-q.ensures in
    let m = saved_by (saves_of e.result.made (instr_of e.result.instr)) in
    turned src.layout (type_in src.types.now) c.args.at g.result (state_of c.args.st.now) (state_of e.new.st) e.result
    (asks_passes 1 (omega arith) c.requires).ok g.ensures e.ensures
    (c.note_save.ensures ∙ ap (λ (k : ℕ). put c.args.names.now k m) c.made-k.ensures) o.0 o.1
