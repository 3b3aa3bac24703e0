use Rattle.std.proofs.Common.{◌≡◌, ◌+◌, ◌*◌, ◌/◌, ◌%◌, get_or, ◌∙◌, arith}
use Rattle.std.proofs.lemmas.Bool.Decides.{nat_tests}
use Rattle.bottom.specs.PipeTable.{bit_of}
use Rattle.bottom.proofs.Bytes.{flag_tells}
use Rattle.bottom.proofs.pipe_table.has.Goals as goal

pub returns : goal.returns
returns c =
    let table = c.args.table.now in
    let at = c.args.at in
    let place = c.index-place.result in
    let row = at.row_in in
    let low = at.place_in in
    let byte : place / 8 ≡ 16 * at.row + at.place / 8 = omega (arith, c.index-place.ensures.value) in
    let bit : place % 8 ≡ at.place % 8 = omega (arith, c.index-place.ensures.value) in
    let told = flag_tells (get_or table (place / 8) 0) (place % 8) (omega arith) ∙ (λ i. bit_of (get_or table (byte i) 0) (bit i)) in
    grind (arith, nat_tests)
