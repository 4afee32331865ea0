-- A store written: what each name holds, one behind the other, and then the length and the version in front of it.
use Prim.Native.Nat.{ℕ, suc, ◌+◌, ◌-◌, ◌<◌, ◌≤◌}
use mathlib.Core.Path.{◌≡◌, refl, sym, ap, ◌∙◌, subst}
use mathlib.Core.Logic.{◌≢◌}
use mathlib.Core.List.{List, ◌++◌}
use mathlib.Core.Option.{Option}
use native.Mathlib.Omega.{arith}
use lib.ListN.{length}
use Rattle.arith.specs.Value.{Val}
use Rattle.record.specs.Record.{nm}
use Rattle.record.specs.Write.{be, join}
use Rattle.record.proofs.Stands.{length_be}
use Rattle.write_bytes.specs.Put.{put, Wrote}
use Rattle.write_bytes.proofs.Wrote.{Rest, wrote_before, rest_all, rest_less, rest_none}
use Rattle.running.specs.House.{nothing_byte, values_from, value_bytes, stored_bytes, form_bytes}
use Rattle.engine_cells.specs.declared.Cell.{Cell}
use Rattle.engine_cells.specs.declared.Cells.{Cells}
use Rattle.engine_cells.specs.Cells.{cell_in, value_in, store_in}
use Rattle.engine_cells.proofs.Store.{nothing_in, some_in}
use Rattle.engine_house.specs.Reads.{values_held}

-- ---- what one name holds
module _ {N : ℕ} {l m : List ℕ} {i p : ℕ} (cells : Cells N) (x : ℕ) (c : Cell) (e : c ≡ cell_in cells x) where
  pub nothing_written : c.kind ≡ nothing_byte → Wrote l m i p (be 1 nothing_byte) → Wrote l m i p (stored_bytes (store_in cells (nm x)))
  unfolding stored_bytes
  nothing_written k w =
      subst (λ (o : Option Val). Wrote l m i p (stored_bytes o)) (sym (nothing_in cells x c e k)) w

  pub value_written :
      c.kind ≢ nothing_byte → Wrote l m i p (value_bytes (value_in cells x)) → Wrote l m i p (stored_bytes (store_in cells (nm x)))
  unfolding stored_bytes
  value_written n w =
      subst (λ (o : Option Val). Wrote l m i p (stored_bytes o))
      (sym (some_in cells x (cell_in cells x) refl (λ k. n (ap (λ (d : Cell). d.kind) e ∙ k)))) w

-- ---- what the names hold from the x-th on
module _ {N : ℕ} {l l₀ whole : List ℕ} {i i₀ : ℕ} (cells : Cells N) (x n : ℕ) where
  pub held_less :
      {m : List ℕ} {p : ℕ} → x < n → Wrote l m i p (stored_bytes (store_in cells (nm x))) →
      Rest l i (values_held cells x (n - x)) l₀ i₀ whole → Rest m p (values_held cells (x + 1) (n - (x + 1))) l₀ i₀ whole
  unfolding values_from join
  held_less h w r =
      let one : n - x ≡ suc (n - (x + 1)) = omega (arith, h) in
      let next : suc x ≡ x + 1 = omega arith in
      rest_less (stored_bytes (store_in cells (nm x))) (values_held cells (x + 1) (n - (x + 1))) (values_held cells x (n - x))
      (ap (values_held cells x) one
      ∙ ap (λ (y : ℕ). stored_bytes (store_in cells (nm x)) ++ values_held cells y (n - (x + 1))) next) w r

  pub held_none : n ≤ x → Rest l i (values_held cells x (n - x)) l₀ i₀ whole → Wrote l₀ l i₀ i whole
  unfolding values_from join
  held_none h r =
      let none : n - x ≡ 0 = omega (arith, h) in
      rest_none (values_held cells x (n - x)) (ap (values_held cells x) none) r

pub held_all : {N : ℕ} {l : List ℕ} {i : ℕ} (cells : Cells N) (n : ℕ) → Rest l i (values_held cells 0 (n - 0)) l i (values_held cells 0 n)
held_all {N} {l} {i} cells n =
    let all : n ≡ n - 0 = omega arith in
    subst (λ (k : ℕ). Rest l i (values_held cells 0 k) l i (values_held cells 0 n)) all rest_all

-- ---- the form: the items, then the version in front of them, then the length in front of that
pub form_written :
    {l m k r : List ℕ} {p : ℕ} (bytes : List ℕ) →
    Wrote l m 5 p bytes → k ≡ put m 4 (be 1 1) → r ≡ put k 0 (be 4 (p - 4)) → Wrote l r 0 p (form_bytes bytes)
unfolding form_bytes
form_written {l} {m} {k} {r} {p} bytes w a b =
    let rest = be 1 1 ++ bytes in
    let version : Wrote l k 4 p rest = wrote_before 1 (be 1 1) bytes (length_be 1 1) w a in
    let size : p - 4 ≡ length rest = omega (arith, version.end) in
    wrote_before 4 (be 4 (length rest)) rest (length_be 4 (length rest)) version (b ∙ ap (λ (n : ℕ). put k 0 (be 4 n)) size)
