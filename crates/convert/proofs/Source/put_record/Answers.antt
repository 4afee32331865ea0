-- `convert::Source::put_record` meets its contract: L and the version, then all up to the blocks as it stands, then the blocks.
use mathlib.Core.Path.{ap}
use Prim.Native.Nat.{◌+◌}
use native.Mathlib.Omega.{arith}
use Rattle.read_layout.specs.declared.Layout.{Layout}
use Rattle.read_layout.specs.Layout.{layout_of}
use Rattle.record.proofs.Sizes.{record_size}
use Rattle.record.specs.Versions.{in_version}
use Rattle.record.specs.Again.{record_in}
use Rattle.convert.proofs.Record.{first_near, blocks_stand, record_put}
use Rattle.convert.proofs.Source.put_record.Goals as goal

pub overflow_sub-size : goal.overflow_sub-size
overflow_sub-size g c = omega (arith, c.requires.0.size_is, record_size (in_version c.args.self.version (record_in c.args.self.reads.now)))

pub overflow_add-p : goal.overflow_add-p
unfolding layout_of
overflow_add-p g c = let a = c.args in
    omega (arith, (first_near a.self.version a.self.reads.now a.size c.requires.0).1, ap (λ (l : Layout). l.end) c.requires.1)

pub overflow_sub-p : goal.overflow_sub-p
unfolding layout_of
overflow_sub-p g c = let a = c.args in
    omega (arith, (first_near a.self.version a.self.reads.now a.size c.requires.0).0, ap (λ (l : Layout). l.end) c.requires.1)

pub copy_bytes-q-requires : goal.copy_bytes-q-requires
unfolding layout_of
copy_bytes-q-requires g c = let a = c.args in
    omega (arith, (first_near a.self.version a.self.reads.now a.size c.requires.0).1, ap (λ (l : Layout). l.end) c.requires.1)

pub put_blocks-requires : goal.put_blocks-requires
unfolding layout_of
put_blocks-requires g c = let a = c.args in (
  omega arith,
  blocks_stand a.self.version a.self.reads.now a.size c.requires.0 _ _ _ _ a.self.widths.0 a.self.widths.1
      (ap (λ (l : Layout). l.end + 2) c.requires.1) (ap (λ (l : Layout). l.blocks) c.requires.1) c.copy_bytes-q.ensures.0,
)

pub returns : goal.returns
unfolding layout_of
returns g c = let a = c.args in
    record_put a.self.version a.self.reads.now a.size c.requires.0 _ _ _ _ a.self.widths.0 a.self.widths.1
    (ap (λ (l : Layout). l.end + 2) c.requires.1) (ap (λ (l : Layout). l.blocks) c.requires.1)
    c.args.out.now c.put_u32.ensures c.put_u8.ensures c.copy_bytes-q.ensures.0 c.put_blocks.ensures
