-- `engine_house::put_store` meets its contract: the items, the version, the length.
use Rattle.running.specs.House.{store_bytes}
use Rattle.engine_house.proofs.Written.{form_written}
use Rattle.engine_house.proofs.put_store.Goals as goal

pub returns : goal.returns
unfolding store_bytes
returns g c = form_written _ c.put_cells-end.ensures.0 c.put_u8.ensures c.put_u32.ensures
