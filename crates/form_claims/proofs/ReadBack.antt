-- Writing what was read: a command that bytes begin with, written in their form, is the bytes that it was read from.
use Prim.Native.Nat.{ℕ, suc, ◌+◌, ◌^◌, ◌<◌, ◌≤◌}
use mathlib.Core.Bool.{Bool, true, false, cond}
use mathlib.Core.List.{List, [], ◌∷◌, ◌++◌}
use mathlib.Core.Path.{◌≡◌, refl, sym, ◌∙◌, ap}
use native.Mathlib.Omega.{arith}
use borrow.Author.Tests.{ltb-false, eqb-true, eqb-false}
use lib.Dec.{ltb, eqb}
use lib.ListN.{length, take}
use Rattle.std.specs.Prelude.{Result, Ok, Err}
use Rattle.answer.specs.declared.Refusal.{Refusal}
use Rattle.answer.specs.declared.Refusal.TheVariants.{SetTooWide}
use Rattle.command.specs.declared.Command.{Command}
use Rattle.form.specs.declared.Form.{Form}
use Rattle.command.specs.Command.{operand_bytes, set_of, command_with, command_of, size_at}
use Rattle.form.specs.Sets.{is_unknown, narrowest}
use Rattle.command.specs.Operand.{operand, little_bytes}
use Rattle.form.proofs.Width.{narrowest-1}
use Rattle.encode.specs.Encode.{set_byte, bytes_of, read_bytes}
use Rattle.command.proofs.Front.{front-cases}
use Rattle.conversion.specs.Conversion.{bad_of}
use Rattle.conversion.proofs.Given.{never}
use Rattle.form_claims.specs.Claims.{AreBytes}
use Rattle.form_claims.proofs.Numbers.{operand-bound, operands-back}

-- the width of a value that is held by so many bytes, and by no fewer
abbrev width : Bool → Bool → ℕ
width p q = cond p 1 (cond q 4 8)

exact-4 : (v : ℕ) → v < 256 ^ 4 → ltb (narrowest v) 4 ≡ false → narrowest v ≡ 4
exact-4 v h = go (ltb v (256 ^ 1)) (ltb v (256 ^ 4)) refl
  where
    go : (p q : Bool) → ltb v (256 ^ 4) ≡ q → ltb (width p q) 4 ≡ false → width p q ≡ 4
    go true q e w = cc
    go false true e w = refl
    go false false e w = let z : ⊥ = omega (arith, h, ltb-false v (256 ^ 4) e) in absurd z

exact-8 : (v : ℕ) → ltb (narrowest v) 8 ≡ false → narrowest v ≡ 8
exact-8 v = go (ltb v (256 ^ 1)) (ltb v (256 ^ 4))
  where
    go : (p q : Bool) → ltb (width p q) 8 ≡ false → width p q ≡ 8
    go true q w = cc
    go false true w = cc
    go false false w = refl

-- a set of the short form, as it was read
set_back :
    (k a v : ℕ) → (ltb (narrowest v) k ≡ false → narrowest v ≡ k) → bad_of (set_of Form.Short k a v) ≡ []
    → read_bytes Form.Short (set_of Form.Short k a v) ≡ set_byte k ∷ (little_bytes 1 a ++ little_bytes k v)
unfolding bytes_of
set_back k a v exact = go (ltb (narrowest v) k) exact
  where
    go :
        (b : Bool) → (b ≡ false → narrowest v ≡ k)
        → bad_of (cond b (Err SetTooWide) (Ok (Command.Set a v))) ≡ []
        → read_bytes Form.Short (cond b (Err SetTooWide) (Ok (Command.Set a v)))
        ≡ set_byte k ∷ (little_bytes 1 a ++ little_bytes k v)
    go true e h = never h
    go false e h = (λ i. set_byte (e refl i) ∷ (little_bytes 1 a ++ little_bytes (e refl i) v))

-- the tables of commands and of their sizes go by the same tests
pub choose :
    (P : Result Command Refusal → ℕ → Type 0) (b : Bool) (x y : Result Command Refusal) (n m : ℕ)
    → (b ≡ true → P x n) → (b ≡ false → P y m) → P (cond b x y) (cond b n m)
choose P true x y n m p q = p refl
choose P false x y n m p q = q refl

module _ (f : Form) (c : ℕ) (s : List ℕ) (bytes : AreBytes s) (whole : operand_bytes c ≤ length s) where
  -- a command with n bytes of operands is as it was read from c and s
  Back : Result Command Refusal → ℕ → Type 0
  Back d n = bad_of d ≡ [] → read_bytes f d ≡ c ∷ take n s

  -- a command byte and two operands, as they were read
  both :
      (b n k : ℕ) → operand_bytes b ≡ n + k → eqb c b ≡ true
      → b ∷ (little_bytes n (operand s 0 n) ++ little_bytes k (operand s n k)) ≡ c ∷ take (n + k) s
  both b n k size e =
      let here = eqb-true c b e in
      let fits : n + k ≤ length s = omega (arith, size, whole, ap operand_bytes here) in
      (λ i. sym here i ∷ operands-back s bytes n k fits i)

-- the sets
module _ (c : ℕ) (s : List ℕ) (bytes : AreBytes s) (whole : operand_bytes c ≤ length s) where
  set-01 : (f : Form) → eqb c 0x01 ≡ true → Back f c s bytes whole (set_of f 8 (operand s 0 1) (operand s 1 8)) 9
  unfolding Back bytes_of
  set-01 Form.Long e h = both Form.Long c s bytes whole 0x01 1 8 refl e
  set-01 Form.Short e h =
      set_back 8 (operand s 0 1) (operand s 1 8) (exact-8 (operand s 1 8)) h ∙ both Form.Short c s bytes whole 0x01 1 8 refl e

  -- the value of a narrower one
  narrow-bound : (b k : ℕ) → operand_bytes b ≡ 1 + k → eqb c b ≡ true → operand s 1 k < 256 ^ k
  narrow-bound b k size e =
      operand-bound s bytes 1 k (omega (arith, size, whole, ap operand_bytes (eqb-true c b e)))

  set-11 :
      (f : Form) → is_unknown f c ≡ false → eqb c 0x11 ≡ true
      → Back f c s bytes whole (set_of f 1 (operand s 0 1) (operand s 1 1)) 2
  unfolding Back
  set-11 Form.Long k e h = let z : ⊥ = omega (arith, ltb-false 0x08 c k, eqb-true c 0x11 e) in absurd z
  set-11 Form.Short k e h =
      let small = narrow-bound 0x11 1 refl e in
      set_back 1 (operand s 0 1) (operand s 1 1) (λ w. narrowest-1 (operand s 1 1) (omega (arith, small))) h
      ∙ both Form.Short c s bytes whole 0x11 1 1 refl e

  set-12 :
      (f : Form) → is_unknown f c ≡ false → eqb c 0x12 ≡ true
      → Back f c s bytes whole (set_of f 4 (operand s 0 1) (operand s 1 4)) 5
  unfolding Back
  set-12 Form.Long k e h = let z : ⊥ = omega (arith, ltb-false 0x08 c k, eqb-true c 0x12 e) in absurd z
  set-12 Form.Short k e h =
      let small = narrow-bound 0x12 4 refl e in
      set_back 4 (operand s 0 1) (operand s 1 4) (exact-4 (operand s 1 4) small) h
      ∙ both Form.Short c s bytes whole 0x12 1 4 refl e

-- a known byte that is neither 11 nor 12 is 08 or lower
low : (f : Form) (c : ℕ) → is_unknown f c ≡ false → eqb c 0x11 ≡ false → eqb c 0x12 ≡ false → ltb 0x08 c ≡ false
low Form.Long c k p q = k
low Form.Short c k p q = simp (p, q) at k

-- the command with byte c
with-back :
    (f : Form) (c : ℕ) (s : List ℕ) (bytes : AreBytes s) (whole : operand_bytes c ≤ length s) → is_unknown f c ≡ false
    → Back f c s bytes whole (command_with f c s) (operand_bytes c)
unfolding Back bytes_of
with-back f c s bytes whole k =
    let P = Back f c s bytes whole in
    let both = both f c s bytes whole in
    choose P (eqb c 0x01) _ _ _ _ (λ e. set-01 c s bytes whole f e)
    (λ n1.
    choose P (eqb c 0x02) _ _ _ _ (λ e h. both 0x02 1 0 refl e)
    (λ n2.
    choose P (eqb c 0x03) _ _ _ _ (λ e h. both 0x03 4 8 refl e)
    (λ n3.
    choose P (eqb c 0x04) _ _ _ _ (λ e h. both 0x04 2 0 refl e)
    (λ n4.
    choose P (eqb c 0x05) _ _ _ _ (λ e h. both 0x05 2 8 refl e)
    (λ n5.
    choose P (eqb c 0x06) _ _ _ _ (λ e h. both 0x06 1 0 refl e)
    (λ n6.
    choose P (eqb c 0x07) _ _ _ _ (λ e h. both 0x07 0 0 refl e)
    (λ n7.
    choose P (eqb c 0x08) _ _ _ _ (λ e h. both 0x08 1 0 refl e)
    (λ n8.
    choose P (eqb c 0x11) _ _ _ _ (λ e. set-11 c s bytes whole f k e)
    (λ n9.
    choose P (eqb c 0x12) _ _ _ _ (λ e. set-12 c s bytes whole f k e)
    (λ n10 h.
    let below : c ≤ 4 =
    omega (
      arith,
      ltb-false 0x08 c (low f c k n9 n10),
      eqb-false c 0x05 n5,
      eqb-false c 0x06 n6,
      eqb-false c 0x07 n7,
      eqb-false c 0x08 n8,
    ) in
    let none : ◌≡◌ {A = ℕ} 0 c =
    omega (arith, below, eqb-false c 0x01 n1, eqb-false c 0x02 n2, eqb-false c 0x03 n3, eqb-false c 0x04 n4) in
    ap (λ b. b ∷ []) none))))))))))

-- the command that bytes begin with
pub front-back :
    (f : Form) (s : List ℕ) → AreBytes s → bad_of (command_of f s) ≡ [] → read_bytes f (command_of f s) ≡ take (size_at s) s
unfolding command_of Back
front-back f [] bytes h = never h
front-back f (c ∷ s) bytes h =
    let one : 1 + operand_bytes c ≡ suc (operand_bytes c) = omega arith in
    front-cases (λ d. bad_of d ≡ [] → read_bytes f d ≡ c ∷ take (operand_bytes c) s) f c s never never
    (λ known whole. with-back f c s bytes.1 whole known) h
    ∙ sym (ap (λ n. take n (c ∷ s)) one)
