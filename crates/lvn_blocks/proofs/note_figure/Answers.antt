-- `lvn_blocks::note_figure` meets its contract: the count of the block and its saves, at a place of the table.
use Prim.Native.Nat.{ℕ, ◌+◌}
use mathlib.Core.Path.{ap, ◌∙◌}
use lib.ListN.{set}
use Rattle.write_bytes.specs.Put.{put}
use Rattle.lvn_blocks.proofs.note_figure.Goals as goal

pub returns : goal.returns
unfolding put
returns c = let a = c.args in
    c.store.ensures ∙ ap (λ (n : ℕ). set a.each.now a.i (n + a.saves)) c.u16_at.ensures
