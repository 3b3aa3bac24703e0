-- The wire is added to the keys that land somewhere through it.
use Rattle.std.proofs.Common.{◌≡◌, ◌<◌, true, is_some, sym, ap, ◌∙◌, subst}
use Rattle.chest.specs.Reaches.{reaches_of}
use Rattle.board.specs.Among.{lands}
use Rattle.board.specs.Outlets.{key_of}
use Rattle.coupling.proofs.Tables.{table_put}
use Rattle.board.proofs.Indexes.{lands_is, is_some_map, by_key, by_no_key}
use Rattle.board.proofs.outlets.Outlets.add_keys.Goals as goal
use Rattle.board.proofs.outlets.Outlets.add_keys.Goals.{then-is_some, else-is_some}

pub loop-key-preserved : goal.loop-key-preserved
loop-key-preserved c =
    let w = c.args.w in
    let reach = reaches_of c.args.below.now in
    let key = c.loop-key.key in
    let now = c.loop-key.self in
    let inv = c.loop-key.invariant in
    let found : is_some c.lands.result ≡ lands reach key w = sym (is_some_map (λ at. at.place) c.lands.result) ∙ ap is_some c.lands.ensures.place ∙ lands_is reach w key in
    elim c.if-is_some.branch [
      | then-is_some v ↦ (
        λ p i hp. ap (λ t. key_of t p i) v.self-is ∙ table_put now.keys key p c.args.number true v.with.result v.index-self-key.result (subst (λ n. key < n) (sym now.by_key) c.loop-key-test.true) (v.with.ensures.value c.requires) i ∙ by_key (λ p. lands reach p w) key p i c.args.number (key_of now p i) (key_of c.args.self.now p i) (inv.0 p i hp) (sym found ∙ sym c.is_some.ensures ∙ v.if-is_some.true),
        ap (λ t. t.rows) v.self-is ∙ inv.1,
      )
      | else-is_some v ↦ (
        λ p i hp. ap (λ t. key_of t p i) v.self-is ∙ inv.0 p i hp ∙ by_no_key (λ p. lands reach p w) key p i c.args.number (key_of c.args.self.now p i) (sym found ∙ sym c.is_some.ensures ∙ v.if-is_some.false),
        ap (λ t. t.rows) v.self-is ∙ inv.1,
      )
    ]
