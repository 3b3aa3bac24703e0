-- Lines of wires, up to the most that a book may have, and one more. Assumes nothing.
use Rattle.std.proofs.Common.{◌≡◌, ℕ, ◌+◌, ◌*◌, ◌<◌, ◌≤◌, List, [], ◌∷◌, ◌++◌, length, pos, Some, None, Ok, Err, codes, Result, sym, refl, ap, ◌∙◌, subst, inl, inr, ⊎_elim, append_assoc, length-append, arith}
use Rattle.std.specs.List.{AllByRecursion}
use Rattle.std.proofs.ByRecursion.{All-weaker}
use Rattle.std.proofs.lemmas.List.{length_push}
use Rattle.std.proofs.lemmas.Bool.{cond-true, cond-false, cases_lt, le-leb, lt-leb}
use Rattle.book.specs.declared.board.Board.{Board}
use Rattle.book.specs.declared.board.Board.TheVariants.{Coupler, Stop}
use Rattle.book.specs.declared.book_fault.BookFault.{BookFault}
use Rattle.book.specs.declared.book_fault.BookFault.TheVariants.{Repeat}
use Rattle.book.specs.declared.form.Form.{Form}
use Rattle.book.specs.declared.form.Form.TheVariants as form
use Rattle.book.specs.Bytes.{allowed, first_outside}
use Rattle.book.specs.Entry.{Entry, wires_of}
use Rattle.book.specs.Reading.{line_form, placed, with_line, cut, and_then, lines_from}
use Rattle.book.specs.Cases.{ended}
use Rattle.book.specs.WireLimits.{WireLine, WireLaw}
use Rattle.book.proofs.Course.{more_lines, whole}
use Rattle.book.proofs.Gluing.{Inner, allowed-inner, cut-some, cut_line}
use Rattle.book.proofs.Heading.{clean-sound}
use Rattle.book.proofs.Said.{wires-push}

-- one line comes off lines that are ended
next_line : (es : List Entry) (n : ℕ) (l : List ℕ) (ls : List (List ℕ)) → AllByRecursion Inner l → lines_from es n (cut (ended (l ∷ ls))) ≡ and_then (with_line es n l) (λ fs. lines_from fs (n + 1) (cut (ended ls)))
next_line es n l ls inner =
    ap (λ t. lines_from es n (cut t)) (append_assoc l (10 ∷ []) (ended ls)) ∙ ap (lines_from es n) (cut_line l (ended ls) inner) ∙
    more_lines es n l (cut (ended ls)) (cut-some (ended ls))

-- what such a line says
abbrev silent : Board → Form
silent b = form.Wire b (record { from = 0; lowest = 0; highest = 0; to = 0; shift = pos 0; knob = 0; position = 0 })

record Wired (l : List ℕ) : Type 0 where
  board : Board
  says : (n : ℕ) → line_form n l ≡ Ok (Some (silent board))
  inner : AllByRecursion Inner l
  size : length l ≡ 22

clean_inner : (l : List ℕ) → first_outside allowed l ≡ None → AllByRecursion Inner l
clean_inner l none = All-weaker _ Inner allowed-inner l (clean-sound l none)

wired : (l : List ℕ) → WireLine l → Wired l
wired l (inl e) =
    subst Wired (sym e) (record { board = Coupler; says = λ n. refl; inner = clean_inner (codes "(wire 1 0 0 0 0 0 0 0)") refl; size = refl })
wired l (inr e) =
    subst Wired (sym e) (record { board = Stop; says = λ n. refl; inner = clean_inner (codes "(wire 2 0 0 0 0 0 0 0)") refl; size = refl })

-- the lines come to their bytes
bytes : (ls : List (List ℕ)) → AllByRecursion WireLine ls → length (ended ls) ≡ 23 * length ls
bytes [] all = refl
bytes (l ∷ ls) all =
    omega (arith, length-append (l ++ 10 ∷ []) (ended ls), length_push l 10, (wired l all.0).size, bytes ls all.1)

-- a wire on line n
abbrev entry : ℕ → Board → Entry
entry n b = record { line = n; form = silent b }

one_more_wire : (es : List Entry) (n : ℕ) (b : Board) → length (wires_of (es ++ entry n b ∷ [])) ≡ length (wires_of es) + 1
one_more_wire es n b = ap length (wires-push es (entry n b)) ∙ length_push (wires_of es) _

-- where there is room such a line adds its wire, and where there is none it is at fault
module _ (es : List Entry) (n : ℕ) (l : List ℕ) (ls : List (List ℕ)) (w : Wired l) where
  abbrev rest : List Entry → Result (List Entry) BookFault
  rest fs = lines_from fs (n + 1) (cut (ended ls))

  said_by_line : lines_from es n (cut (ended (l ∷ ls))) ≡ and_then (placed es n (Ok (Some (silent w.board)))) rest
  said_by_line = next_line es n l ls w.inner ∙ ap (λ q. and_then (placed es n q) rest) (w.says n)

  roomy : length (wires_of es) < 256 → lines_from es n (cut (ended (l ∷ ls))) ≡ lines_from (es ++ entry n w.board ∷ []) (n + 1) (cut (ended ls))
  roomy room = said_by_line ∙ ap (λ r. and_then r rest) (cond-false _ _ _ (lt-leb 256 (length (wires_of es)) room))

  full : 256 ≤ length (wires_of es) → lines_from es n (cut (ended (l ∷ ls))) ≡ Err (Repeat n)
  full many = said_by_line ∙ ap (λ r. and_then r rest) (cond-true _ _ _ (le-leb 256 (length (wires_of es)) many))

few_wires : (ls : List (List ℕ)) → AllByRecursion WireLine ls → (es : List Entry) (n : ℕ) → length (wires_of es) + length ls ≤ 256 → (fs : List Entry) × (lines_from es n (cut (ended ls)) ≡ Ok fs) × (length fs ≡ length es + length ls)
few_wires [] all es n room = (es, refl, omega arith)
few_wires (l ∷ ls) all es n room =
    let w = wired l all.0 in
    let more = few_wires ls all.1 (es ++ entry n w.board ∷ []) (n + 1) (omega (arith, one_more_wire es n w.board)) in
    (more.0, roomy es n l ls w (omega arith) ∙ more.1, omega (arith, more.2, length_push es (entry n w.board)))

many_wires : (ls : List (List ℕ)) → AllByRecursion WireLine ls → (es : List Entry) (n : ℕ) → n ≡ length (wires_of es) + 1 → length (wires_of es) ≤ 256 → 257 ≤ length (wires_of es) + length ls → lines_from es n (cut (ended ls)) ≡ Err (Repeat 257)
many_wires [] all es n at room many = absurd (omega arith)
many_wires (l ∷ ls) all es n at room many =
    let w = wired l all.0 in
    ⊎_elim
    (λ (less : length (wires_of es) < 256).
    let one = one_more_wire es n w.board in
    roomy es n l ls w less ∙ many_wires ls all.1 (es ++ entry n w.board ∷ []) (n + 1) (omega arith) (omega arith) (omega arith))
    (λ (most : 256 ≤ length (wires_of es)).
    let last : n ≡ 257 = omega arith in
    full es n l ls w most ∙ ap (λ m. Err (Repeat m)) last)
    (cases_lt (length (wires_of es)) 256)

pub wire_law : WireLaw
wire_law =
    record {
      most =
          λ ls all few.
          let some = few_wires ls all [] 1 (omega arith) in
          (some.0, sym (whole (ended ls) (omega (arith, bytes ls all))) ∙ some.1, omega (arith, some.2));
      one_more =
          λ ls all many fit. sym (whole (ended ls) (omega (arith, bytes ls all))) ∙ many_wires ls all [] 1 refl (omega arith) (omega arith);
    }
