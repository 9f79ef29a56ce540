-- What is kept of a call takes it back, also where it is refused before the record is looked at.
use Prim.Native.Nat.{ℕ}
use mathlib.Core.Bool.{Bool, true, false, cond}
use mathlib.Core.List.{List, []}
use mathlib.Core.Path.{◌≡◌, refl, ◌∙◌, ap}
use lib.Dec.{ltb, eqb}
use Rattle.answer.specs.declared.Answer.{Answer}
use Rattle.answer.specs.declared.Refusal.TheVariants.{FieldTooLarge, ValueTooLarge}
use Rattle.answer.specs.Refused.{is_refused}
use Rattle.calls.specs.Listed.{Listed, Emptied}
use Rattle.calls.specs.Replied.{tick_call}
use Rattle.calls.proofs.Listed.{listed-call}
use Rattle.execute.specs.Execute.{tick_command}
use Rattle.execute.proofs.Taken.{level-back, write-back, tick-back, member_back}
use Rattle.execute.proofs.Taken.{set-stays, level-stays, write-stays, tick-stays, member-stays}
use Rattle.fields.specs.Set.{set, set_level}
use Rattle.undo_words.specs.Journal.{entries}
use Rattle.undo_list.specs.Words.{noted}
use Rattle.undo_list.proofs.Noted.{Stays, emptied}
use Rattle.machine.proofs.Bools.{chosen}
use Rattle.machine.specs.declared.Machine.{Machine}
use Rattle.machine.specs.declared.Outcome.{Outcome}
use Rattle.machine.specs.Outcome.{refused}
use Rattle.rules.specs.External.{external_write, tick, member}
use Rattle.store.specs.Store.{store_settings, store_features, store_mdcr2, store_mdcr3, store_pmuacr, store_sampling}
use Rattle.undo.specs.declared.Change.{Change}
use Rattle.undo.specs.declared.Undo.{Undo}
use Rattle.undo.specs.Undo.{unchanged, held, undo_of, undone}
use Rattle.words.specs.Words.{word, settings_of, record_of}
use Rattle.words.specs.Untyped.{untyped}
use Rattle.words.specs.Call.{call_of}

module _ (s list list' : List ℕ) (a : Answer) (u : Undo) (noted-so : entries list' ≡ noted a u 0 (entries list)) where
  abbrev m : Machine
  m = record_of s

  -- the outcome is taken back by what is kept
  abbrev TakenBack : Change → Outcome → Type 0
  TakenBack k o = undone (undo_of k m) o.machine ≡ m

  -- the entry, by what the words hold
  own : (k : Change) → u ≡ undo_of k m → entries list' ≡ noted a (undo_of k m) 0 (entries list)
  own k e = noted-so ∙ ap (λ (u : Undo). noted a u 0 (entries list)) e

  pub level-listed :
      (l : ℕ) → a ≡ (set_level l m).answer → u ≡ undo_of unchanged m → Listed (set_level l m) unchanged m list list'
  level-listed l ea eu =
      listed-call m (set_level l m) unchanged list list' (level-stays m l) (level-back m l) a ea unchanged refl (own unchanged eu)

  same-34 : TakenBack (held 0x34 (word s 0x34)) (refused FieldTooLarge m)
  unfolding record_of settings_of undone store_settings store_features store_mdcr2 store_mdcr3 store_pmuacr store_sampling
  same-34 = refl

  same-7F : TakenBack (held 0x7F (word s 0x7F)) (refused FieldTooLarge m)
  unfolding record_of undone
  same-7F = refl

  same-8C : TakenBack (held 0x8C (word s 0x8C)) (refused FieldTooLarge m)
  unfolding record_of undone
  same-8C = refl

  pub write-listed :
      (offset x : ℕ) → a ≡ (call_of (external_write offset x) s).answer → u ≡ undo_of (held 0x34 (word s 0x34)) m
      → Listed (call_of (external_write offset x) s) (held 0x34 (word s 0x34)) m list list'
  unfolding record_of settings_of
  write-listed offset x ea eu =
      let o = external_write offset x m in
      listed-call m (call_of (external_write offset x) s) (held 0x34 (word s 0x34)) list list'
      (chosen (Stays m) (untyped s) (refused FieldTooLarge m) o (λ e. refl) (write-stays m offset x))
      (chosen (TakenBack (held 0x34 (word s 0x34))) (untyped s) (refused FieldTooLarge m) o same-34 (write-back m offset x))
      a ea _ refl (own (held 0x34 (word s 0x34)) eu)

  pub member-listed :
      (d : ℕ) → a ≡ (call_of (member d) s).answer → u ≡ undo_of (held 0x8C (word s 0x8C)) m
      → Listed (call_of (member d) s) (held 0x8C (word s 0x8C)) m list list'
  unfolding record_of
  member-listed d ea eu =
      let o = member d m in
      listed-call m (call_of (member d) s) (held 0x8C (word s 0x8C)) list list'
      (chosen (Stays m) (untyped s) (refused FieldTooLarge m) o (λ e. refl) (member-stays m d))
      (chosen (TakenBack (held 0x8C (word s 0x8C))) (untyped s) (refused FieldTooLarge m) o same-8C (member_back m d))
      a ea _ refl (own (held 0x8C (word s 0x8C)) eu)

  -- what holds of a tick command holds of the call, which may also be refused with 10
  ticked :
      (P : Outcome → Type 0) (p : ℕ) → P (refused ValueTooLarge m) → P (refused FieldTooLarge m) → P (tick_command p m)
      → P (tick_call p s)
  unfolding tick_command
  ticked P p four ten h = go (ltb 1 p) h
    where
      go : (b : Bool) → P (cond b (refused ValueTooLarge m) (tick (eqb p 1) m))
          → P (cond b (refused ValueTooLarge m) (call_of (tick (eqb p 1)) s))
      go true h = four
      go false h = chosen P (untyped s) (refused FieldTooLarge m) (tick (eqb p 1) m) ten h

  pub tick-listed :
      (p : ℕ) → a ≡ (tick_call p s).answer → u ≡ undo_of (held 0x7F (word s 0x7F)) m
      → Listed (tick_call p s) (held 0x7F (word s 0x7F)) m list list'
  unfolding record_of
  tick-listed p ea eu =
      listed-call m (tick_call p s) (held 0x7F (word s 0x7F)) list list'
      (ticked (Stays m) p (λ e. refl) (λ e. refl) (tick-stays m p))
      (ticked (TakenBack (held 0x7F (word s 0x7F))) p same-7F same-7F (tick-back m p))
      a ea _ refl (own (held 0x7F (word s 0x7F)) eu)

-- a set
pub set-emptied :
    (m : Machine) (f v : ℕ) (a : Answer) (list list' : List ℕ) → a ≡ (set f v m).answer
    → entries list' ≡ cond (is_refused a) (entries list) []
    → Emptied (set f v m) m list list'
set-emptied m f v a list list' ea e =
    let own = e ∙ ap (λ (a : Answer). cond (is_refused a) (entries list) []) ea in
    record { history = emptied m (set f v m) (set-stays m f v) list list' own; kept = own }
