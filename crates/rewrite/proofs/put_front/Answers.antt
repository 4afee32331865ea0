-- `rewrite::put_front` meets its contract: each part is written behind the one before it.
use native.Mathlib.Omega.{arith}
use Rattle.record.proofs.Again.{few_original, names_on}
use Rattle.rewrite.proofs.Known.{names_before, few_made, made_named, made_short, front_put}
use Rattle.rewrite.proofs.put_front.Goals as goal

pub overflow_cast-count : goal.overflow_cast-count
overflow_cast-count c = omega (arith, few_made c.requires.reads c.requires.saved)

pub overflow_add-count : goal.overflow_add-count
overflow_add-count c = let p = c.requires.reads in
    omega (arith, c.names_count.ensures, few_original p, few_made p c.requires.saved)

pub copy_names-p-requires : goal.copy_names-p-requires
copy_names-p-requires c = let p = c.requires.reads in
    (names_on p, omega (arith, p.near))

pub put_made_names-q-requires : goal.put_made_names-q-requires
put_made_names-q-requires c = let p = c.requires.reads in
    let m = c.requires.saved in (
      omega (arith, p.near, c.copy_names-p.ensures.1),
      (few_made p m, (made_named p m, made_short p m)),
    )

pub put_u16-requires : goal.put_u16-requires
put_u16-requires c = let p = c.requires.reads in
    omega (arith, p.near, c.copy_names-p.ensures.1, few_made p c.requires.saved, c.put_made_names-q.ensures.1)

pub overflow_add-result : goal.overflow_add-result
overflow_add-result c = let p = c.requires.reads in
    omega (arith, p.near, c.copy_names-p.ensures.1, few_made p c.requires.saved, c.put_made_names-q.ensures.1)

pub returns : goal.returns
returns c = let p = c.requires.reads in
    let m = c.requires.saved in (
      front_put p m _ _ _ _ _ c.put_u32.ensures c.put_record_head.ensures c.copy_names-p.ensures.0
          c.put_made_names-q.ensures.0 c.put_u16.ensures c.u8_at-version.ensures c.u8_at-args.ensures
          (omega (arith, c.names_count.ensures)) c.blocks-2.ensures,
      (
        omega (arith, p.near, c.copy_names-p.ensures.1, few_made p m, c.put_made_names-q.ensures.1),
        names_before p c.copy_names-p.ensures.0.end (omega (arith, c.put_made_names-q.ensures.0.end)),
      ),
    )
