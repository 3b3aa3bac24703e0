use Rattle.std.proofs.Common.{◌≡◌, ℕ, ◌<◌, ◌≤◌, Bool, false, List, [], length, get_or, set, None, ap, ⊎_elim, arith}
use Rattle.std.proofs.lemmas.List.{length-set, get_or-set_same, get_or-set_other, get_or_past}
use Rattle.std.proofs.lemmas.Bool.{cases_lt}
use Rattle.std.proofs.lemmas.Bool.Decides.{nat_tests}
use Rattle.console.specs.declared.key_table.Division.{Division}
use Rattle.console.specs.declared.key_table.KeyTable.{KeyTable}
use Rattle.console.specs.Keys.{lifted}
use Rattle.console.specs.KeyTable.{keys_of}
use Rattle.console.proofs.key_table.KeyTable.lift.Goals as goal

put_out : (keys : List Bool) (k : ℕ) → get_or (set keys k false) k false ≡ false
put_out keys k =
    ⊎_elim
    (λ (h : k < length keys). get_or-set_same keys k false false h)
    (λ (h : length keys ≤ k). get_or_past (set keys k false) k false (simp length-set h))
    (cases_lt k (length keys))

pub returns : goal.returns
returns c =
    let ds = c.args.self.now.divisions in
    let r = c.args.at.row in
    let p = c.args.at.place in
    let none : Division = record { down = []; sustained = None } in
    let old = get_or ds r none in
    let new : Division = record { down = set old.down p false; sustained = old.sustained } in
    let row_in = c.args.at.row_in in
    let same = get_or-set_same ds r new none (omega arith) in
    let other = λ (d : ℕ). get_or-set_other ds r d new none in
    let key = λ (k : ℕ). get_or-set_other old.down p k false false in
    let there = put_out old.down p in
    let table : KeyTable = record { divisions = set ds r new } in
    let was = keys_of c.args.self.now in
    let now = keys_of table in
    let at : (d : ℕ) → d ≡ r → get_or (set ds r new) d none ≡ get_or (set ds r new) r none = λ d e. ap (λ n. get_or (set ds r new) n none) e in
    let from : (d : ℕ) → d ≡ r → get_or ds d none ≡ old = λ d e. ap (λ n. get_or ds n none) e in
    let down : (d k : ℕ) → now.down d k ≡ (lifted was r p).down d k = λ d k. grind (arith, nat_tests, other d, key k, at d, from d) in
    let sustained : (d k : ℕ) → now.sustained d k ≡ was.sustained d k = λ d k. grind (arith, nat_tests, other d, at d, from d) in
    let sustain : (d : ℕ) → now.sustain d ≡ was.sustain d = λ d. grind (arith, nat_tests, other d, at d, from d) in
    λ i. record { down = λ d k. down d k i; sustained = λ d k. sustained d k i; sustain = λ d. sustain d i }
