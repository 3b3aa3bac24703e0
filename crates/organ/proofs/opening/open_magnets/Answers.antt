-- The answer for `open_magnets`: the bottom chest is new, with the ranks of the book.
use Rattle.std.proofs.Common.{◌≤◌, rules, arith, ◌≡◌, ap, ◌∙◌, subst, IfOk}
use Rattle.std.proofs.lemmas.Bool.Decides.{nat_tests}
use Rattle.chest.proofs.Arrays.{from_fn_each, reaches_held}
use Rattle.chest.specs.Reaches.{reach_of}
use Rattle.book.specs.Book.{keys_in, pipes_in}
use Rattle.bottom.specs.MagnetChest.{magnet_meaning, MagnetSettled}
use Rattle.organ.specs.Assembly.{hang_all}
use Rattle.bottom.specs.declared.magnet_chest.MagnetChest.{MagnetChest}
use Rattle.console.specs.declared.console.Console.{Console}
use Rattle.organ.specs.Opening.{Opens, new_ranks, organ_meaning}
use Rattle.organ.specs.Paths.{PathLaw}
use Rattle.organ.specs.Stack.{Stack}
use Rattle.organ.proofs.Paths.{speaks_by_paths}
use Rattle.organ.proofs.opening.open_magnets.Goals as goal

-- the new chest means what new ranks mean
means : (c : goal.After-open) → magnet_meaning c.new.result ≡ new_ranks (pipes_in c.args.book.now)
means c =
    let book = c.args.book.now in
    let ranks : reach_of c.from_fn-ranks.result ≡ pipes_in book = reaches_held c.from_fn-ranks.result (pipes_in book) (λ r low. from_fn_each _ (λ i y. (y ≡ pipes_in book i) × (y ≤ 128)) _ (λ i y q call. search rules) _ 16 r 0 c.from_fn-ranks.ensures.items low) (λ r past. grind (arith, nat_tests)) in
    c.new.ensures.value ∙ ap new_ranks ranks

pub returns-clause-opens : goal.returns-clause-opens
returns-clause-opens c =
    let book = c.args.book.now in
    subst (λ m. Opens magnet_meaning MagnetSettled book m (hang_all (keys_in book) m (book.wires.items)) c.open.result) (means c) (c.open.ensures.opens c.new.ensures.settled)

pub returns-clause-paths : goal.returns-clause-paths
returns-clause-paths c =
    let book = c.args.book.now in
    let rule = λ (console : Console (Stack MagnetChest)). (organ_meaning magnet_meaning MagnetSettled console).rule in
    speaks_by_paths (keys_in book) (pipes_in book) book.wires.items rule c.open.result (subst (λ m. IfOk c.open.result (λ console. PathLaw (keys_in book) m book.wires.items (rule console))) (means c) (c.open.ensures.paths c.new.ensures.settled))
