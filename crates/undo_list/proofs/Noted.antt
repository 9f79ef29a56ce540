-- The words of the undo list after a command stand for the list that the definition says, for each way that a command treats it.
use Prim.Native.Nat.{ℕ, zero, suc}
use mathlib.Core.Bool.{Bool, true, false, cond}
use mathlib.Core.List.{List, [], ◌∷◌}
use mathlib.Core.Path.{◌≡◌, refl, sym, ◌∙◌, ap, ap₂}
use lib.ListN.{take}
use Rattle.std.specs.Prelude.{Some, None}
use Rattle.answer.specs.declared.Answer.{Answer}
use Rattle.answer.specs.declared.Refusal.TheVariants.{NothingToUndo}
use Rattle.answer.specs.Refused.{is_refused}
use Rattle.undo_words.specs.declared.Entry.{Entry}
use Rattle.undo_words.specs.Journal.{capacity, entries, latest, rest}
use Rattle.machine.specs.declared.Machine.{Machine}
use Rattle.machine.specs.declared.Outcome.{Outcome}
use Rattle.machine.specs.Outcome.{says, refused}
use Rattle.undo.specs.declared.Undo.{Undo}
use Rattle.undo.specs.Undo.{undone}
use Rattle.undo_list.specs.History.{response, remember, listing, emptying, keeping, back_from}
use Rattle.undo_list.specs.Words.{earlier_by, history_by, response_by, noted}

-- the list that is cut is the cut list
earlier-take : (n : ℕ) (es : List Entry) (m : Machine) → earlier_by (take n es) m ≡ take n (earlier_by es m)
unfolding earlier_by
earlier-take zero es m = refl
earlier-take (suc n) [] m = refl
earlier-take (suc n) (e ∷ es) m = ap (λ h. undone e.undo m ∷ h) (earlier-take n es (undone e.undo m))

-- where the outcome is refused, the record stayed
abbrev pub Stays : Machine → Outcome → Type 0
Stays r o = is_refused o.answer ≡ true → o.machine ≡ r

module _ (r : Machine) (o : Outcome) (stays : Stays r o) (words words' : List ℕ) where
  -- the entries stay, with a record that stayed
  same-earlier :
      {es : List Entry} → es ≡ entries words → o.machine ≡ r → earlier_by es o.machine ≡ earlier_by (entries words) r
  same-earlier p q = ap₂ earlier_by p q

  -- listed, unless it was refused
  pub listed :
      (u : Undo) (tag : ℕ) → undone u o.machine ≡ r → entries words' ≡ noted o.answer u tag (entries words)
      → response_by o words' ≡ listing o (history_by r words)
  unfolding earlier_by remember
  listed u tag back e = ap (response o) (go (is_refused o.answer) stays e)
    where
      go :
          (b : Bool) → (b ≡ true → o.machine ≡ r)
          → entries words' ≡ cond b (entries words) (take capacity (record { undo = u; tag = tag } ∷ entries words))
          → earlier_by (entries words') o.machine
          ≡ cond b (earlier_by (entries words) r) (remember r (earlier_by (entries words) r))
      go true s e = same-earlier e (s refl)
      go false s e =
          ap (λ es. earlier_by es o.machine) e
          ∙ earlier-take capacity (record { undo = u; tag = tag } ∷ entries words) o.machine
          ∙ ap (λ m. take capacity (m ∷ earlier_by (entries words) m)) back

  -- emptied, unless it was refused
  pub emptied :
      entries words' ≡ cond (is_refused o.answer) (entries words) [] → response_by o words' ≡ emptying o (history_by r words)
  unfolding earlier_by
  emptied e = ap (response o) (go (is_refused o.answer) stays e)
    where
      go :
          (b : Bool) → (b ≡ true → o.machine ≡ r) → entries words' ≡ cond b (entries words) []
          → earlier_by (entries words') o.machine ≡ cond b (earlier_by (entries words) r) []
      go true s e = same-earlier e (s refl)
      go false s e = ap (λ es. earlier_by es o.machine) e

-- the same of a call's result o, which the definition says is p
module _ (r : Machine) (words words' : List ℕ) {o : Outcome} (p : Outcome) (same : o ≡ p) (stays : Stays r p) where
  pub is-listed :
      {u : Undo} (v : Undo) → u ≡ v → undone v p.machine ≡ r → {result : Outcome}
      → (result ≡ o) × (entries words' ≡ noted o.answer u 0 (entries words))
      → (response_by result words' ≡ listing p (history_by r words))
      × (entries words' ≡ noted result.answer v 0 (entries words))
  is-listed v kept back e =
      let put = e.1 ∙ ap (λ u. noted o.answer u 0 (entries words)) kept in (
        ap (λ o. response_by o words') (e.0 ∙ same)
            ∙ listed r p stays words words' v 0 back (put ∙ ap (λ (o : Outcome). noted o.answer v 0 (entries words)) same),
        put ∙ sym (ap (λ (o : Outcome). noted o.answer v 0 (entries words)) e.0),
      )

  pub is-emptied :
      entries words' ≡ cond (is_refused o.answer) (entries words) [] → response_by o words' ≡ emptying p (history_by r words)
  is-emptied e =
      ap (λ o. response_by o words') same
      ∙ emptied r p stays words words' (e ∙ ap (λ (o : Outcome). cond (is_refused o.answer) (entries words) []) same)

-- a command that changes neither the record nor the list
pub is-kept :
    (r : Machine) (words : List ℕ) {o : Outcome} (p : Outcome) → o ≡ p → p.machine ≡ r
    → response_by o words ≡ keeping p (history_by r words)
is-kept r words p same stayed =
    ap (λ o. response_by o words) same ∙ ap (λ m. response p (earlier_by (entries words) m)) stayed

-- the step back, from what is recalled and what then is listed
module _ (r : Machine) (words words' : List ℕ) where
  pub nothing-back :
      None ≡ latest (entries words) → entries words' ≡ rest (entries words)
      → response_by (refused NothingToUndo r) words' ≡ back_from r (earlier_by (entries words) r)
  unfolding earlier_by
  nothing-back l e = go (entries words) l e
    where
      go :
          (es : List Entry) → None ≡ latest es → entries words' ≡ rest es
          → response_by (refused NothingToUndo r) words' ≡ back_from r (earlier_by es r)
      go [] l e = ap (λ es. response (refused NothingToUndo r) (earlier_by es r)) e
      go (x ∷ es) l e = cc

  pub latest-back :
      {x : Entry} → Some x ≡ latest (entries words) → entries words' ≡ rest (entries words)
      → (m : Machine) → m ≡ undone x.undo r
      → response_by (says Answer.Ok m) words' ≡ back_from r (earlier_by (entries words) r)
  unfolding earlier_by
  latest-back {x} l e m u = go (entries words) l e
    where
      go :
          (es : List Entry) → Some x ≡ latest es → entries words' ≡ rest es
          → response_by (says Answer.Ok m) words' ≡ back_from r (earlier_by es r)
      go [] l e = cc
      go (y ∷ es) l e =
          let same : x ≡ y = cc in
          λ i. response (says Answer.Ok ((u ∙ ap (λ z. undone z.undo r) same) i))
          (earlier_by (e i) ((u ∙ ap (λ z. undone z.undo r) same) i))
