-- The tokens that the lexer hands on, by the pieces that they are. Assumes nothing.
use Rattle.std.specs.Prelude.{◌≡◌, ℕ, Bool, true, false, ◌&&◌, ◌||◌, List, [], ◌∷◌, ◌++◌, ◌≢◌, take, drop, Some, None, Option, ◌==◌}
use Rattle.std.specs.List.{prefix_len}
use denote.Ref.{Bor}
use Rattle.book.specs.declared.token.Token.{Token}
use Rattle.book.specs.declared.token.Token.TheVariants.{Open, Word, Number, Close}
use Rattle.book.specs.declared.token.Lexed.{Lexed}
use Rattle.book.specs.Bytes.{space, opening, closing}
use Rattle.book.specs.Pieces.{Kind, Piece, run, mark, letters, figures, pieces}

-- the bytes that a token stands for; a number has one space before it
abbrev pub spelled : Token → List ℕ
spelled Open = opening ∷ []
spelled (Word w) = w.now
spelled (Number d) = space ∷ d.now
spelled Close = closing ∷ []

-- a token before the pieces of what follows it
abbrev pub token_before : Token → List Piece → List Piece
token_before Open ps = mark opening ∷ ps
token_before (Word w) ps = run letters w.now ∷ ps
token_before (Number d) ps = mark space ∷ (run figures d.now ∷ ps)
token_before Close ps = mark closing ∷ ps

-- whether the pieces begin with a run of the kind
abbrev pub begins : Kind → List Piece → Bool
begins k [] = false
begins letters (run letters w ∷ ps) = true
begins letters (run figures w ∷ ps) = false
begins figures (run letters w ∷ ps) = false
begins figures (run figures w ∷ ps) = true
begins k (mark m ∷ ps) = false

-- whether the pieces begin with a token
abbrev pub token_first : List Piece → Bool
token_first [] = false
token_first (run letters w ∷ ps) = true
token_first (run figures w ∷ ps) = false
token_first (mark m ∷ ps) = m == opening || (m == closing || (m == space && begins figures ps))

-- the longest run of bytes that pass the test, unless it is empty, and what follows it
abbrev pub Runs : (ℕ → Bool) → List ℕ → Option (Bor (List ℕ) × Bor (List ℕ)) → Type 0
Runs p bs None = prefix_len p bs ≡ 0
Runs p bs (Some r) = (prefix_len p bs ≢ 0) × (r.0.now ≡ take (prefix_len p bs) bs) × (r.1.now ≡ drop (prefix_len p bs) bs)

-- the token that a text begins with, and the text after it
abbrev pub Cuts : List ℕ → Option (Token × Bor (List ℕ)) → Type 0
Cuts bs None = token_first (pieces bs) ≡ false
Cuts bs (Some t) = (bs ≡ spelled t.0 ++ t.1.now) × (pieces bs ≡ token_before t.0 (pieces t.1.now))

-- what the lexer answers on the given line, from the bytes before to the bytes after
abbrev pub Lexes : ℕ → List ℕ → Option Lexed → List ℕ → Type 0
Lexes n bs None rest = (token_first (pieces bs) ≡ false) × (rest ≡ bs)
Lexes n bs (Some t) rest = (t.line ≡ n) × (bs ≡ spelled t.token ++ rest) × (pieces bs ≡ token_before t.token (pieces rest))
