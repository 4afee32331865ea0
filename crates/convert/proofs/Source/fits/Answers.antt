-- `convert::Source::fits` meets its contract: of the id that stands there.
use mathlib.Core.Path.{sym, subst, ap, ◌∙◌}
use lib.Dec.{ltb}
use Prim.Native.Nat.{ℕ, ◌^◌}
use Rattle.record.specs.Reader.{num_at}
use Rattle.write_bytes.specs.Put.{IdWidth}
use Rattle.write_bytes.proofs.Numbers.{id_width}
use Rattle.convert.proofs.Source.fits.Goals as goal

pub read_id-requires : goal.read_id-requires
read_id-requires g c = let a = c.args in
    (c.requires, subst IdWidth (sym a.self.widths.0) (id_width (num_at a.self.reads.now 4 1)))

pub word_fits-requires : goal.word_fits-requires
word_fits-requires g c = subst IdWidth (sym c.args.self.widths.1) (id_width c.args.self.version)

pub returns : goal.returns
returns g c = c.word_fits.ensures ∙ ap (λ (n : ℕ). ltb n (256 ^ g.row.TO)) c.read_id.ensures.0
