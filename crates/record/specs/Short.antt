-- Instructions in short, for the examples: i is the id, c a code, d, x and xs indexes of names, f a callee, b and e blocks, xbs indexes with blocks.
use Rattle.std.specs.Prelude.{ℕ, List, [], ◌∷◌, map}
use Rattle.record.specs.Record.{nm, no_lit, Instr}

-- d = c xs
abbrev pub gives : ℕ → ℕ → ℕ → List ℕ → Instr
gives i d c xs = record { id = i; code = c; dest = nm d; lit = no_lit; args = map nm xs; callee = 0; blocks = [] }

-- d = call f xs
abbrev pub asks : ℕ → ℕ → ℕ → List ℕ → Instr
asks i d f xs = record { id = i; code = 20; dest = nm d; lit = no_lit; args = map nm xs; callee = f; blocks = [] }

-- d = phi, of names each with its block
abbrev pub joins : ℕ → ℕ → List (ℕ × ℕ) → Instr
joins i d xbs =
    record { id = i; code = 39; dest = nm d; lit = no_lit; args = map (λ x. nm x.0) xbs; callee = 0; blocks = map (λ x. x.1) xbs }

-- d = a literal
abbrev pub set : ℕ → ℕ → ℕ → ℕ → Instr
set i d kind bits = record { id = i; code = 0; dest = nm d; lit = record { kind = kind; bits = bits }; args = []; callee = 0; blocks = [] }

-- the effect c of xs, which has no callee and no blocks
abbrev pub does : ℕ → ℕ → List ℕ → Instr
does i c xs = record { id = i; code = c; dest = nm 0; lit = no_lit; args = map nm xs; callee = 0; blocks = [] }

-- call f xs
abbrev pub tells : ℕ → ℕ → List ℕ → Instr
tells i f xs = record { id = i; code = 67; dest = nm 0; lit = no_lit; args = map nm xs; callee = f; blocks = [] }

-- br x b e
abbrev pub chooses : ℕ → ℕ → ℕ → ℕ → Instr
chooses i x b e = record { id = i; code = 65; dest = nm 0; lit = no_lit; args = nm x ∷ []; callee = 0; blocks = b ∷ e ∷ [] }

-- jmp b
abbrev pub goes : ℕ → ℕ → Instr
goes i b = record { id = i; code = 64; dest = nm 0; lit = no_lit; args = []; callee = 0; blocks = b ∷ [] }
