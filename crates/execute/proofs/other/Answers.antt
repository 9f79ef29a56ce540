-- `execute::other` meets its contract: a case for each command, by the contracts of what it calls.
use Prim.Native.Nat.{ℕ}
use mathlib.Core.Bool.{true≢false}
use mathlib.Core.List.{List}
use mathlib.Core.Path.{◌≡◌, refl, sym, ◌∙◌, ap, subst}
use Rattle.std.specs.Prelude.{Result, Ok}
use Rattle.answer.specs.declared.Refusal.{Refusal}
use Rattle.command.specs.declared.Command.{Command}
use Rattle.command.specs.Command.{is_access}
use Rattle.machine.specs.declared.Machine.{Machine}
use Rattle.machine.specs.declared.Outcome.{Outcome}
use Rattle.undo.specs.Undo.{unchanged, held, undo_of}
use Rattle.execute.specs.Execute.{obey}
use Rattle.execute.specs.Words.{entries_after, Executed}
use Rattle.undo_list.proofs.Noted.{is-listed, is-emptied, is-kept}
use Rattle.execute.proofs.Taken.{level-back, write-back, tick-back, member_back}
use Rattle.execute.proofs.Taken.{set-stays, level-stays, read_same, write-stays, tick-stays, member-stays}
use Rattle.execute.proofs.other.Goals as goal

-- what is shown of a command, of another name for it
same-command :
    {c d : Result Command Refusal} {r : Machine} {o : Outcome} {words words' : List ℕ} → c ≡ d → Executed d r o words words'
    → Executed c r o words words'
same-command {r = r} {o = o} {words = words} {words' = words'} e = subst (λ d. Executed d r o words words') (sym e)

-- what was read, by its command
read_as : {c : Result Command Refusal} {d e : Command} → c ≡ Ok d → d ≡ e → c ≡ Ok e
read_as p q = p ∙ ap Ok q

pub returns-in-Ok-Set : goal.returns-in-Ok-Set
unfolding obey entries_after
returns-in-Ok-Set c =
    let r = c.args.r in
    same-command (read_as c.in-Ok-Set.is (rw c.in-Ok-Set.is at c.in-Ok-Set.field-0-is)) (record {
      obeyed = is-emptied r c.args.list.now _ _ c.set-o.ensures (set-stays r _ _) c.forget.ensures;
      kept = c.forget.ensures;
    })

pub returns-in-Ok-Level : goal.returns-in-Ok-Level
unfolding obey entries_after
returns-in-Ok-Level c =
    let r = c.args.r in
    let both =
    is-listed r c.args.list.now _ _ c.set_level.ensures (level-stays r _)
    (undo_of unchanged r) c.kept-u.ensures (level-back r _) c.listed.ensures in
    same-command (read_as c.in-Ok-Level.is (rw c.in-Ok-Level.is at c.in-Ok-Level.field-0-is)) (record {
      obeyed = both.0;
      kept =
          both.1;
    })

pub returns-in-Ok-Read : goal.returns-in-Ok-Read
unfolding obey entries_after
returns-in-Ok-Read c =
    let r = c.args.r in
    same-command (read_as c.in-Ok-Read.is (rw c.in-Ok-Read.is at c.in-Ok-Read.field-0-is)) (record {
      obeyed = is-kept r c.args.list.now _ c.read.ensures (read_same r _);
      kept = refl;
    })

pub returns-in-Ok-Write : goal.returns-in-Ok-Write
unfolding obey entries_after
returns-in-Ok-Write c =
    let r = c.args.r in
    let both =
    is-listed r c.args.list.now _ _ c.write.ensures (write-stays r _ _)
    (undo_of (held 0x34 r.settings.cnten) r) c.kept-u-in-Ok-Write.ensures (write-back r _ _) c.listed-in-Ok-Write.ensures in
    same-command (read_as c.in-Ok-Write.is (rw c.in-Ok-Write.is at c.in-Ok-Write.field-0-is)) (record {
      obeyed = both.0;
      kept =
          both.1;
    })

pub returns-in-Ok-Tick : goal.returns-in-Ok-Tick
unfolding obey entries_after
returns-in-Ok-Tick c =
    let r = c.args.r in
    let both =
    is-listed r c.args.list.now _ _ c.tick_command.ensures (tick-stays r _)
    (undo_of (held 0x7F r.values.instructions) r) c.kept-u-in-Ok-Tick.ensures (tick-back r _) c.listed-in-Ok-Tick.ensures in
    same-command (read_as c.in-Ok-Tick.is (rw c.in-Ok-Tick.is at c.in-Ok-Tick.field-0-is)) (record {
      obeyed = both.0;
      kept =
          both.1;
    })

pub returns-in-Ok-Back : goal.returns-in-Ok-Back
unfolding obey entries_after
returns-in-Ok-Back c =
    same-command (read_as c.in-Ok-Back.is (rw c.in-Ok-Back.is at c.in-Ok-Back.field-0-is)) (record {
      obeyed = c.back.ensures.0;
      kept = c.back.ensures.1;
    })

pub returns-in-Ok-Member : goal.returns-in-Ok-Member
unfolding obey entries_after
returns-in-Ok-Member c =
    let r = c.args.r in
    let both =
    is-listed r c.args.list.now _ _ c.member.ensures (member-stays r _)
    (undo_of (held 0x8C r.values.pmsicr) r) c.kept-u-in-Ok-Member.ensures (member_back r _) c.listed-in-Ok-Member.ensures in
    same-command (read_as c.in-Ok-Member.is (rw c.in-Ok-Member.is at c.in-Ok-Member.field-0-is)) (record {
      obeyed = both.0;
      kept =
          both.1;
    })

pub returns-in-Err : goal.returns-in-Err
unfolding obey entries_after
returns-in-Err c = same-command c.in-Err.is (record { obeyed = refl; kept = refl })

pub returns-in-Ok-End : goal.returns-in-Ok-End
unfolding obey entries_after
returns-in-Ok-End c = same-command (read_as c.in-Ok-End.is (rw c.in-Ok-End.is at c.in-Ok-End.field-0-is)) (record {
  obeyed = refl;
  kept = refl;
})

pub unreachable-requires : goal.unreachable-requires
unreachable-requires c = true≢false (ap is_access (sym (read_as c.in-Ok-Access.is (rw c.in-Ok-Access.is at
    c.in-Ok-Access.field-0-is))) ∙ c.requires)
