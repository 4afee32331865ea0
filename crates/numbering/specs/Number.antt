-- "One block": the steps of one instruction, of a block and of a function, under the names of the Rust.
use Rattle.std.specs.Prelude.{ℕ, zero, suc, ◌+◌, Bool, true, false, cond, ◌&&◌, List, [], ◌∷◌, ◌++◌, map, leb}
use Rattle.std.proofs.Math.Option.{Option, none, some}
use Rattle.arith.specs.declared.One.TheVariants.{Not, Id}
use Rattle.arith.specs.Map.{pick}
use Rattle.arith.specs.Equal.{Expr-discrete}
use Rattle.arith.specs.Value.{Val, int, float, literal, char, bool, pointer}
use Rattle.arith.specs.Operation.{Expr, constant, one, two}
use Rattle.arith.specs.Code.{code1, code2}
use Rattle.record.specs.declared.NameIx.{NameIx}
use Rattle.record.specs.Record.{nm, NameIx-discrete, Lit, no_lit, Instr, Block, Function, names_of, type_in, arg}
use Rattle.record.specs.Shape.{shape_of}
use Rattle.record.specs.Form.{Form, pure, new, effect, return, nop, jump, branch, form}
use Rattle.numbering.specs.declared.ValNum.{ValNum}
use Rattle.numbering.specs.State.{vn, State, ValNum-discrete, start, new_number, update_env, rehome, gen_new_vals, number_of, home_of, known}
use Rattle.numbering.specs.Simplify.{simplify}

-- ---- the names that an instruction reads
abbrev pub operands : Expr NameIx → List NameIx
operands (constant v) = []
operands (one o a) = a ∷ []
operands (two o a b) = a ∷ b ∷ []

unfoldable pub reads : Form → List NameIx
reads (pure e) = operands e
reads (new xs) = xs
reads (effect xs) = xs
reads (return xs) = xs
reads nop = []
reads (jump b) = []
reads (branch a b c) = a ∷ []

-- ---- the value of an instruction with a dest (`make_val`)
-- "const of a float or char literal, are new each time"
unfoldable pub numbered : Val → Bool
numbered (int w) = true
numbered (float b) = false
numbered (literal w) = true
numbered (char c) = false
numbered (bool b) = true
numbered (pointer t b o) = false

-- its value expression, simplified; none where it is new each time
unfoldable pub make_val : State → Expr NameIx → Option (Expr ValNum)
make_val s (constant v) = cond (numbered v) (some (constant v)) none
make_val s (one o a) = some (simplify (known s) (one o (number_of s a)))
make_val s (two o a b) = some (simplify (known s) (two o (number_of s a) (number_of s b)))

-- ---- instructions that are written, under the id and dest of i
abbrev pub literal_for : Val → Lit
literal_for (int w) = record { kind = 0; bits = w }
literal_for (float b) = record { kind = 2; bits = b }
literal_for (literal w) = record { kind = 0; bits = w }
literal_for (char c) = record { kind = 3; bits = c }
literal_for (bool b) = record { kind = 1; bits = cond b 1 0 }
literal_for (pointer t b o) = no_lit

abbrev pub make_const_instr : Instr → Val → Instr
make_const_instr i v =
    record { id = i.id; code = 0; dest = i.dest; lit = literal_for v; args = []; callee = 0; blocks = [] }

abbrev pub make_val_instr : Instr → ℕ → List NameIx → Instr
make_val_instr i code xs =
    record { id = i.id; code = code; dest = i.dest; lit = no_lit; args = xs; callee = 0; blocks = [] }

-- "replace arguments by their numbers' homes"
abbrev pub rewrite_instr : State → List NameIx → Instr → Instr
rewrite_instr s xs i =
    record {
      id = i.id;
      code = i.code;
      dest = i.dest;
      lit = i.lit;
      args = map (home_of s) xs;
      callee = i.callee;
      blocks = i.blocks;
    }

-- the instruction of a value expression
unfoldable pub val_to_instr : State → Instr → Expr ValNum → Instr
val_to_instr s i (constant v) = make_const_instr i v
val_to_instr s i (one o a) = make_val_instr i (code1 o) (s.locs a ∷ [])
val_to_instr s i (two o a b) = make_val_instr i (code2 o) (s.locs a ∷ s.locs b ∷ [])

-- "const if the constant is known, else id of its home"
abbrev pub make_id_instr : Option Val → State → Instr → ValNum → Instr
make_id_instr (some c) s i v = make_const_instr i c
make_id_instr none s i v = make_val_instr i (code1 Id) (s.locs v ∷ [])

-- ---- the save (`handle_overwrite`)
pub record Saved : Type 0 where
  pub state : State
  pub saves : List Instr

abbrev pub no_save : State → Saved
no_save s = record { state = s; saves = [] }

-- the save `made = id x` before i, whose dest is x
abbrev pub save_before : Instr → NameIx → Instr
save_before i made = record { id = i.id; code = code1 Id; dest = made; lit = no_lit; args = i.dest ∷ []; callee = 0; blocks = [] }

-- "write the save `_x_lvnK = id x` under the same id, make it the home, and raise K"; N: how many names the input has
unfoldable pub save : ℕ → State → Instr → ValNum → Saved
save N s i v =
    let made = nm (N + s.temps) in record { state = rehome s v made; saves = save_before i made ∷ [] }

-- "if dest is the home of its present number"
unfoldable pub save_at : ℕ → State → Instr → Option ValNum → Saved
save_at N s i none = no_save s
save_at N s i (some v) = pick (NameIx-discrete (s.locs v) i.dest) (save N s i v) (no_save s)

-- "unless that reads exactly `x = id x`": the instruction of the simplified value
unfoldable pub handle_overwrite : ℕ → State → Instr → Option (Expr ValNum) → Saved
handle_overwrite N s i none = save_at N s i (s.env i.dest)
handle_overwrite N s i (some (constant v)) = save_at N s i (s.env i.dest)
handle_overwrite N s i (some (one Not a)) = save_at N s i (s.env i.dest)
handle_overwrite N s i (some (one Id a)) =
    pick (NameIx-discrete (s.locs a) i.dest) (no_save s) (save_at N s i (s.env i.dest))
handle_overwrite N s i (some (two o a b)) = save_at N s i (s.env i.dest)

-- ---- the number of a value (`get_val_num`)
abbrev pub same_expr : (x y : Option (Expr ValNum)) → Bool
same_expr none none = true
same_expr none (some f) = false
same_expr (some e) none = false
same_expr (some e) (some f) = pick (Expr-discrete ValNum-discrete e f) true false

-- the first of n numbers from i on whose value expression is e
unfoldable pub find : (ValNum → Option (Expr ValNum)) → Expr ValNum → ℕ → ℕ → Option ValNum
find vals e i zero = none
find vals e i (suc n) = cond (same_expr (vals (vn i)) (some e)) (some (vn i)) (find vals e (suc i) n)

-- "a known value number (an id's is its operand's)"
unfoldable pub get_val_num : State → Expr ValNum → Option ValNum
get_val_num s (constant v) = find s.vals (constant v) 0 s.next
get_val_num s (one Not a) = find s.vals (one Not a) 0 s.next
get_val_num s (one Id a) = some a
get_val_num s (two o a b) = find s.vals (two o a b) 0 s.next

-- ---- one instruction: the saves before it and itself, as written
pub record Emitted : Type 0 where
  pub state : State
  pub saves : List Instr
  pub instr : Instr

abbrev pub unchanged : State → Instr → Emitted
unchanged s i = record { state = s; saves = []; instr = i }

-- the value has the number v, or an unknown value gets the next number with dest as home; "Dest takes the number."
unfoldable pub number_dest : Saved → Instr → Expr ValNum → Instr → Option ValNum → Emitted
number_dest q i e written none = record { state = new_number q.state i.dest (some e); saves = q.saves; instr = written }
number_dest q i e written (some v) =
    record {
      state = update_env q.state i.dest v;
      saves = q.saves;
      instr = make_id_instr (known q.state v) q.state i v;
    }

-- an instruction with a dest whose value is e; i has its arguments replaced
unfoldable pub place : ℕ → State → Instr → Option (Expr ValNum) → Emitted
place N s i none =
    let q = handle_overwrite N s i none in
    record { state = new_number q.state i.dest none; saves = q.saves; instr = i }
place N s i (some e) =
    let q = handle_overwrite N s i (some e) in
    number_dest q i e (val_to_instr s i e) (get_val_num q.state e)

unfoldable pub by_form : ℕ → State → Instr → Form → Emitted
by_form N s i (pure e) = place N s i (make_val s e)
by_form N s i (new xs) = place N s i none
by_form N s i (effect xs) = unchanged s i
by_form N s i (return xs) = unchanged s i
by_form N s i nop = unchanged s i
by_form N s i (jump b) = unchanged s i
by_form N s i (branch a b c) = unchanged s i

-- N: how many names the input has; t: the type of each
unfoldable pub instr_lvn : ℕ → (NameIx → ℕ) → State → Instr → Emitted
instr_lvn N t s i =
    let f = form t i in
    let seen = gen_new_vals s (reads f) in
    by_form N seen (rewrite_instr seen (reads f) i) f

-- ---- one block (`block_lvn`): what is written of it, and K behind it
pub record Numbered : Type 0 where
  pub body : List Instr
  pub temps : ℕ

abbrev pub prepend : Emitted → Numbered → Numbered
prepend e rest = record { body = e.saves ++ (e.instr ∷ rest.body); temps = rest.temps }

unfoldable pub block_lvn : ℕ → (NameIx → ℕ) → State → List Instr → Numbered
block_lvn N t s [] = record { body = []; temps = s.temps }
block_lvn N t s (i ∷ is) = let e = instr_lvn N t s i in prepend e (block_lvn N t e.state is)

-- ---- the function (`lvn`)
-- "A save is an instruction with a made dest"
unfoldable pub is_save : ℕ → Instr → Bool
is_save N i = (shape_of i.code).dest && leb N i.dest.0

unfoldable pub count_saves : ℕ → List Instr → ℕ
count_saves N [] = 0
count_saves N (i ∷ is) = cond (is_save N i) 1 0 + count_saves N is

-- "K starts at 0 and runs on from block to block"; "a block's saves field counts them"
unfoldable pub blocks_lvn : Function → ℕ → List (Block Instr) → List (Block Instr)
blocks_lvn f k [] = []
blocks_lvn f k (b ∷ bs) =
    let q = block_lvn (names_of f) (type_in f.types) (start f.args k) b.body in
    record { saves = count_saves (names_of f) q.body; body = q.body } ∷ blocks_lvn f q.temps bs

-- what each save of a list saves
unfoldable pub saved_in : ℕ → List Instr → List NameIx
saved_in N [] = []
saved_in N (i ∷ is) = cond (is_save N i) (arg i 0 ∷ saved_in N is) (saved_in N is)

-- the names of which K = 0, 1, .. were made
unfoldable pub made_from : ℕ → List (Block Instr) → List NameIx
made_from N [] = []
made_from N (b ∷ bs) = saved_in N b.body ++ made_from N bs

-- the rewriting: "the name made with K has index N+K and dest's type"
unfoldable pub lvn : Function → Function
lvn f =
    let bs = blocks_lvn f 0 f.blocks in
    record {
      args = f.args;
      types = f.types ++ map (type_in f.types) (made_from (names_of f) bs);
      blocks = bs;
    }
