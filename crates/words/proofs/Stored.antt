-- A store to word f is a store to field f: the record that the words then hold.
use Prim.Native.Nat.{ℕ, zero, suc, ◌+◌, ◌-◌, ◌%◌, ◌^◌, ◌<◌, ◌≤◌}
use mathlib.Core.Bool.{Bool, true, false, cond}
use mathlib.Core.List.{List, [], ◌∷◌, map}
use mathlib.Core.Path.{◌≡◌, refl, sym, ◌∙◌, ap}
use native.Mathlib.Nat.{mod-eq_of_lt}
use native.Mathlib.Omega.{arith}
use borrow.Author.Tests.{eqb-true, eqb-false, leb-true, leb-false}
use lib.Dec.{eqb, leb}
use lib.ListN.{length, get_or, set, take, drop}
use lib.Seq.{get_or-set_same, get_or-set_other, drop-set-lt, drop-set-add, take-set-lt, take-set-le}
use Rattle.fields.specs.Largest.{largest}
use Rattle.store.specs.Store.{flag, number, store, store_list, store_settings, store_features, store_mdcr2, store_mdcr3}
use Rattle.store.specs.Store.{store_pmuacr, store_sampling}
use Rattle.store.proofs.Flag.{flag-chosen}
use Rattle.store.proofs.StoreList.{store_below, store-past, store_at}
use Rattle.words.specs.Words.{word, on, low, settings_of, record_of, level_word, word_count}

-- a value that its field can hold in a record by value
pub record Fits (f v : ℕ) : Type 0 where
  pub flag : largest f ≡ 1 → v < 2
  pub event : 0x40 ≤ f → f ≤ 0x5E → v < 2 ^ 16

map-set : (g : ℕ → ℕ) (l : List ℕ) (i v : ℕ) → map g (set l i v) ≡ set (map g l) i (g v)
map-set g [] i v = refl
map-set g (x ∷ xs) zero v = refl
map-set g (x ∷ xs) (suc i) v = ap (λ (l : List ℕ). g x ∷ l) (map-set g xs i v)

module _ (s : List ℕ) (h : length s ≡ word_count) (f v : ℕ) (j : f < level_word) where
  number-set : (k : ℕ) → get_or (set s f v) k 0 ≡ number k f v (get_or s k 0)
  number-set k = go (eqb f k) refl
    where
      go : (b : Bool) → eqb f k ≡ b → get_or (set s f v) k 0 ≡ cond b v (get_or s k 0)
      go true e =
          let q : f ≡ k = eqb-true f k e in
          ap (λ (n : ℕ). get_or (set s f v) n 0) (sym q) ∙ get_or-set_same s f v 0 (omega (arith, h, j))
      go false e = let q : f ≡ k → ⊥ = eqb-false f k e in get_or-set_other s f k v 0 (λ z. q (sym z))

  list_set : (a : ℕ) → take 31 (drop a (set s f v)) ≡ store_list a f v (take 31 (drop a s))
  list_set a = go (leb a f) refl (leb f (a + 30)) refl
    where
      at : a ≤ f → drop a (set s f v) ≡ set (drop a s) (f - a) v
      at p =
          let e : f ≡ a + (f - a) = omega (arith, p) in
          ap (λ (n : ℕ). drop a (set s n v)) e ∙ drop-set-add a s (f - a) v

      go :
          (x : Bool) → leb a f ≡ x → (y : Bool) → leb f (a + 30) ≡ y
          → take 31 (drop a (set s f v)) ≡ store_list a f v (take 31 (drop a s))
      go false e y e' =
          ap (take 31) (drop-set-lt a s f v (leb-false a f e)) ∙ store_below a f v (take 31 (drop a s)) (leb-false a f e)
      go true e true e' =
          let p : a ≤ f = leb-true a f e in
          let r : f ≤ a + 30 = leb-true f (a + 30) e' in
          ap (take 31) (at p) ∙ take-set-lt 31 (drop a s) (f - a) v (omega (arith, p, r))
          ∙ store_at a f v (take 31 (drop a s)) p r
      go true e false e' =
          let p : a ≤ f = leb-true a f e in
          let r : a + 30 < f = leb-false f (a + 30) e' in
          ap (take 31) (at p) ∙ take-set-le 31 (drop a s) (f - a) v (omega (arith, p, r))
          ∙ store-past a f v (take 31 (drop a s)) p r

  level-stays : get_or (set s f v) level_word 0 ≡ get_or s level_word 0
  level-stays = get_or-set_other s f level_word v 0 (λ z. omega (arith, z, j))

  module _ (fits : Fits f v) where
    on-set : (k : ℕ) → largest k ≡ 1 → on k (word (set s f v)) ≡ flag k f v (on k (word s))
    on-set k one =
        ap (λ (n : ℕ). eqb (n % 2) 1) (number-set k) ∙ go (eqb f k) refl ∙ sym (flag-chosen k f v (on k (word s)))
      where
        go : (b : Bool) → eqb f k ≡ b → eqb (cond b v (get_or s k 0) % 2) 1 ≡ cond b (eqb v 1) (on k (word s))
        go true e =
            let small : v < 2 = fits.flag (ap largest (eqb-true f k e) ∙ one) in
            ap (λ (n : ℕ). eqb n 1) (mod-eq_of_lt {n = v} {m = 2} small)
        go false e = refl

    events-set : map low (take 31 (drop 0x40 (set s f v))) ≡ store_list 0x40 f v (map low (take 31 (drop 0x40 s)))
    events-set = ap (map low) (list_set 0x40) ∙ go (leb 0x40 f) refl (leb f 0x5E) refl
      where
        l : List ℕ
        l = take 31 (drop 0x40 s)

        go :
            (x : Bool) → leb 0x40 f ≡ x → (y : Bool) → leb f 0x5E ≡ y
            → map low (store_list 0x40 f v l) ≡ store_list 0x40 f v (map low l)
        go false e y e' = rw e
        go true e false e' = rw (e, e')
        go true e true e' =
            let small : v < 2 ^ 16 = fits.event (leb-true _ _ e) (leb-true _ _ e') in
            rw (e, e')
            (map-set low l (f - 0x40) v ∙ ap (set (map low l) (f - 0x40)) (mod-eq_of_lt {n = v} {m = 2 ^ 16} small))

    settings-set : settings_of (word (set s f v)) ≡ store_settings f v (settings_of (word s))
    unfolding settings_of store_settings store_features store_mdcr2 store_mdcr3 store_pmuacr store_sampling largest
    settings-set i =
        record {
          features = record {
            pmuv3 = on-set 0x00 refl i;
            p5 = on-set 0x01 refl i;
            p9 = on-set 0x02 refl i;
            icntr = on-set 0x03 refl i;
            fgt = on-set 0x04 refl i;
            fgt2 = on-set 0x05 refl i;
            hpmn0 = on-set 0x06 refl i;
            ext32 = on-set 0x07 refl i;
            ext64 = on-set 0x08 refl i;
            el2 = on-set 0x09 refl i;
            el3 = on-set 0x0A refl i;
            el3prio = on-set 0x0B refl i;
            spe = on-set 0x80 refl i;
            ernd = on-set 0x81 refl i;
            n = number-set 0x0C i;
          };
          execution = record { el2enabled = on-set 0x10 refl i; halted = on-set 0x11 refl i; sdd = on-set 0x12 refl i };
          pmcr = record { e = on-set 0x3D refl i; lp = on-set 0x35 refl i };
          pmuserenr = record {
            en = on-set 0x20 refl i;
            sw = on-set 0x21 refl i;
            er = on-set 0x22 refl i;
            uen = on-set 0x23 refl i;
            ir = on-set 0x31 refl i;
          };
          hcr = record { e2h = on-set 0x24 refl i; tge = on-set 0x25 refl i; nv = on-set 0x84 refl i; nv2 = on-set 0x85 refl i };
          mdcr2 = record {
            tpm = on-set 0x26 refl i;
            hpme = on-set 0x3E refl i;
            hlp = on-set 0x36 refl i;
            tpms = on-set 0x86 refl i;
            hpmn = number-set 0x27 i;
          };
          mdcr3 = record { tpm = on-set 0x28 refl i; enpm2 = on-set 0x29 refl i; nspb = number-set 0x88 i };
          scr = record { fgten = on-set 0x2A refl i; fgten2 = on-set 0x2B refl i; ns = on-set 0x87 refl i };
          hdfgrtr = record { pmevcntrn = on-set 0x2C refl i; pmsicr = on-set 0x89 refl i; npmicntr = on-set 0x2F refl i };
          hdfgwtr = record {
            pmevcntrn = on-set 0x2D refl i;
            pmswinc = on-set 0x2E refl i;
            pmsicr = on-set 0x8A refl i;
            npmicntr = on-set 0x30 refl i;
          };
          pmuacr = record { p = number-set 0x32 i; f0 = on-set 0x33 refl i };
          sampling = record { rnd = on-set 0x82 refl i; profiling = on-set 0x83 refl i; reload = number-set 0x8B i };
          external = record {
            powered = on-set 0x38 refl i;
            doublelock = on-set 0x39 refl i;
            oslock = on-set 0x3A refl i;
            allowed = on-set 0x3B refl i;
            softwarelock = on-set 0x3C refl i;
          };
          cnten = number-set 0x34 i;
        }

    pub field-set : record_of (set s f v) ≡ store f v (record_of s)
    unfolding record_of store
    field-set i =
        record {
          level = level-stays i % 2 ^ 8;
          settings = settings-set i;
          events = events-set i;
          counters = list_set 0x60 i;
          values =
              record {
                instructions = number-set 0x7F i;
                ovs = number-set 0x37 i;
                pmsicr = number-set 0x8C i;
                nvmem = number-set 0x8D i;
              };
        }
