-- "Instruction: id (4), code (1), then ..", where an id has 4 bytes, or 8 in version 2: what follows each code. Codes without a row are unknown.
use Rattle.std.specs.Prelude.{ℕ, List, [], ◌∷◌, Bool, true, false, cond, leb}
use Rattle.record.specs.declared.Shape.{Shape}

abbrev pub unknown : Shape
unknown = record { known = false; last = false; literal = false; dest = false; few = 0; most = 0; callee = false; blocks = 0; each = false }

-- const: dest, literal kind, literal
abbrev pub const : Shape
const = record { known = true; last = false; literal = true; dest = true; few = 0; most = 0; callee = false; blocks = 0; each = false }

-- dest, argument count, arguments
abbrev pub value : ℕ → Shape
value n = record { known = true; last = false; literal = false; dest = true; few = n; most = n; callee = false; blocks = 0; each = false }

-- argument count, arguments
abbrev pub effect : ℕ → Shape
effect n = record { known = true; last = false; literal = false; dest = false; few = n; most = n; callee = false; blocks = 0; each = false }

-- "call and print 0 to 8 arguments"; a call has a dest (20) or none (67), and a callee
abbrev pub call : Bool → Shape
call d = record { known = true; last = false; literal = false; dest = d; few = 0; most = 8; callee = true; blocks = 0; each = false }

abbrev pub print : Shape
print = record { known = true; last = false; literal = false; dest = false; few = 0; most = 8; callee = false; blocks = 0; each = false }

-- jmp, br, ret: the fewest and the most arguments, and the block numbers
abbrev pub terminator : ℕ → ℕ → ℕ → Shape
terminator few most blocks = record { known = true; last = true; literal = false; dest = false; few = few; most = most; callee = false; blocks = blocks; each = false }

-- "dest, argument count 0 to 8, arguments, then one block number per argument"
abbrev pub phi : Shape
phi = record { known = true; last = false; literal = false; dest = true; few = 0; most = 8; callee = false; blocks = 0; each = true }

-- how many block numbers follow n arguments
abbrev pub targets : Shape → ℕ → ℕ
targets sh n = cond sh.each n sh.blocks

-- what the first row says whose code is not below c
abbrev pub row_of : {A : Type 0} → A → List (ℕ × A) → ℕ → A
row_of d [] c = d
row_of d (r ∷ rs) c = cond (leb c r.0) r.1 (row_of d rs c)

-- each row is for the codes above the row before it, up to its own
abbrev pub shapes : List (ℕ × Shape)
shapes =
    (0, const) ∷
    -- add sub mul div eq lt gt le ge
    (9, value 2) ∷
    -- not
    (10, value 1) ∷
    -- and or
    (12, value 2) ∷
    -- id
    (13, value 1) ∷
    -- ptradd
    (14, value 2) ∷
    (19, unknown) ∷
    (20, call true) ∷
    -- fadd to fdiv, feq to fge, ceq to cge
    (34, value 2) ∷
    -- char2int int2char alloc load
    (38, value 1) ∷
    (39, phi) ∷
    (63, unknown) ∷
    -- jmp
    (64, terminator 0 0 1) ∷
    -- br
    (65, terminator 1 1 2) ∷
    -- ret
    (66, terminator 0 1 0) ∷
    (67, call false) ∷
    (68, print) ∷
    -- nop
    (69, effect 0) ∷
    -- store
    (70, effect 2) ∷
    -- free
    (71, effect 1) ∷
    []

unfoldable pub shape_of : ℕ → Shape
shape_of c = row_of unknown shapes c
