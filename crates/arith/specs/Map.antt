-- Stores, environments, homes and values are functions, with one update.
use mathlib.Core.HLevel.{Discrete}

abbrev pub pick : {P A : Type 0} → Dec P → A → A → A
pick (yes p) a b = a
pick (no h) a b = b

-- f, but b at a
unfoldable pub upd : {A B : Type 0} → Discrete A → (A → B) → A → B → A → B
upd dec f a b x = pick (dec x a) b (f x)
