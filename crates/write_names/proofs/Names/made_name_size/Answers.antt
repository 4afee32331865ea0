-- `write_names::Names::made_name_size` meets its contract: the size of a name, by the length of its text and the digits.
use mathlib.Core.Path.{◌∙◌}
use native.Mathlib.Omega.{arith}
use Rattle.numbering.proofs.Digits.{digits_few}
use Rattle.write_names.proofs.Sizes.{made_size}
use Rattle.write_names.proofs.Names.made_name_size.Goals as goal

pub returns : goal.returns
returns c = let p = c.requires in
    let few = digits_few c.args.k 4 (omega (arith, p.1.0)) in (
      made_size _ _ _ _ _ _ p.0 p.1.1 c.place-p.ensures.0 (c.from.ensures ∙ c.u8_at.ensures) c.count_digits.ensures.0,
      omega (arith, c.from.ensures, c.u8_at.type_inv, c.count_digits.ensures.0, few),
    )
