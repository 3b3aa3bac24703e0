use Rattle.std.proofs.Common.{◌≤◌, sym, ap, ◌∙◌, subst}
use Rattle.std.proofs.lemmas.List.{get_or_past}
use Rattle.sets.specs.NumberSet.{members, empty}
use Rattle.sets.proofs.Joined.{members_empty}
use Rattle.coupling.proofs.key_desk.KeyDesk.row.Goals as goal

pub returns-else-row-lt-ROWS : goal.returns-else-row-lt-ROWS
returns-else-row-lt-ROWS c =
    let h = c.args.self.now in
    c.none.ensures ∙ sym members_empty ∙ ap members (sym (get_or_past h.keys c.args.row empty (subst (λ n. n ≤ c.args.row) (sym h.manual) c.if-row-lt-ROWS.false)))
