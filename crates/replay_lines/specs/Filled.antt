-- What stands in places that held the same at the start.
use Rattle.std.specs.Prelude.{Bool, ◌&&◌, List, length, drop}
use Rattle.std.specs.List.{list_all, starts_with}

-- whether these stand first, and beyond them nothing but fill; eq: the type's own ==
abbrev pub holds_before_fill : {X : Type 0} → (X → X → Bool) → List X → List X → X → Bool
holds_before_fill eq all first fill = starts_with eq all first && list_all (λ x. eq x fill) (drop (length first) all)
