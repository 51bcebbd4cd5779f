-- What each character does to the piece of a text that it stands in, as the code takes one character after the other.
use Rattle.std.specs.Prelude.{ℕ, ◌+◌, ◌-◌, ◌*◌, Option, Some, None, Result, Ok, Err, if◌then◌else◌, ◌==◌, ◌||◌, nat_le, unwrap_or}
use Rattle.std.specs.Char.{is_whitespace, is_ascii_digit, len_utf8}
use Rattle.xdg_base.specs.Faults.{fault_at}
use Rattle.xdg_base.specs.declared.faults.Fault.{Fault}
use Rattle.xdg_base.specs.declared.faults.Cause.TheVariants as causes
use Rattle.xdg_ast.specs.declared.token.Kind.{Kind}
use Rattle.xdg_ast.specs.declared.token.Kind.TheVariants as kinds
use Rattle.xdg_lex.specs.declared.pieces.Inside.{Inside}
use Rattle.xdg_lex.specs.declared.pieces.Mode.{Mode}
use Rattle.xdg_lex.specs.declared.pieces.Mode.TheVariants as in_
use Rattle.xdg_lex.specs.declared.pieces.Turn.{Turn}
use Rattle.xdg_lex.specs.declared.pieces.Turn.TheVariants as turns
use Rattle.xdg_base.specs.Spelling.{begins_name, continues_name}
use Rattle.xdg_ast.specs.Kinds.{sign_of}

-- a token whose content is too long
abbrev pub too_long : ℕ → ℕ → Fault
too_long at content = record { cause = causes.TooLong; at = at; reached = content }

abbrev pub inside : ℕ → Option ℕ → Inside
inside content wrong = record { content = content; wrong = wrong }

-- a number goes on with digits, while it is at most the greatest number
unfoldable pub digit_goes_on : ℕ → ℕ → ℕ → Turn
digit_goes_on value at c =
    if is_ascii_digit c
    then (if nat_le (value * 10 + (c - 48)) 4294967295 then turns.GoesOn (in_.Number (value * 10 + (c - 48))) else turns.Refused (fault_at causes.BadChar at))
    else turns.Ends

-- a quoted text goes on with each character
unfoldable pub quoted_goes_on : Inside → ℕ → ℕ → Turn
quoted_goes_on read at c =
    if c == 34 then turns.GoesOn (in_.Closed read)
    else (if c == 92 then turns.GoesOn (in_.Escape read at)
    else turns.GoesOn (in_.Quoted (inside (read.content + len_utf8 c) read.wrong)))

-- a backslash and a quotation mark or a backslash after it stand for one byte; any other backslash is wrong, and counts as one byte
unfoldable pub escape_goes_on : Inside → ℕ → ℕ → Turn
escape_goes_on read backslash c =
    if c == 34 || c == 92 then turns.GoesOn (in_.Quoted (inside (read.content + 1) read.wrong))
    else turns.GoesOn (in_.Quoted (inside (read.content + 1 + len_utf8 c) (Some (unwrap_or read.wrong backslash))))

-- a comment after `%` ends with the line
abbrev pub line_goes_on : ℕ → Mode
line_goes_on c = if c == 10 then in_.Between else in_.LineComment

-- a comment between `/*` and `*/` ends with the first star that a slash follows
abbrev pub comment_goes_on : ℕ → Mode
comment_goes_on c = if c == 42 then in_.CommentStar else in_.Comment

abbrev pub star_goes_on : ℕ → Mode
star_goes_on c = if c == 47 then in_.Between else comment_goes_on c

-- whether the character at a place belongs to the piece before it, and what the piece then is
unfoldable pub goes_on : Mode → ℕ → ℕ → Turn
goes_on in_.Between at c = turns.Ends
goes_on in_.Name at c = if continues_name c then turns.GoesOn in_.Name else turns.Ends
goes_on (in_.Number value) at c = digit_goes_on value at c
goes_on (in_.Quoted read) at c = quoted_goes_on read at c
goes_on (in_.Escape read backslash) at c = escape_goes_on read backslash c
goes_on (in_.Closed read) at c = turns.Ends
goes_on (in_.Sign sign) at c = turns.Ends
goes_on in_.LineComment at c = turns.GoesOn (line_goes_on c)
goes_on in_.Slash at c = if c == 42 then turns.GoesOn in_.Comment else turns.Ends
goes_on in_.Comment at c = turns.GoesOn (comment_goes_on c)
goes_on in_.CommentStar at c = turns.GoesOn (star_goes_on c)

abbrev pub sign_begins : ℕ → Option Kind → Result Mode Fault
sign_begins at (Some sign) = Ok (in_.Sign sign)
sign_begins at None = Err (fault_at causes.BadChar at)

-- the piece that begins with the character at a place
unfoldable pub begins : ℕ → ℕ → Result Mode Fault
begins at c =
    if is_whitespace c then Ok in_.Between
    else (if c == 37 then Ok in_.LineComment
    else (if c == 47 then Ok in_.Slash
    else (if c == 34 then Ok (in_.Quoted (inside 0 None))
    else (if begins_name c then Ok in_.Name
    else (if is_ascii_digit c then Ok (in_.Number (c - 48))
    else sign_begins at (sign_of c))))))

abbrev pub escaped_rightly : Option ℕ → Result (Option Kind) Fault
escaped_rightly None = Ok (Some kinds.Quoted)
escaped_rightly (Some backslash) = Err (fault_at causes.BadChar backslash)

-- what a closed quoted text is that begins at a place
unfoldable pub ends_quoted : ℕ → Inside → Result (Option Kind) Fault
ends_quoted start read = if nat_le read.content 127 then escaped_rightly read.wrong else Err (too_long start read.content)

-- what a piece is that begins at a place, has this many bytes, and ends
unfoldable pub ends : Mode → ℕ → ℕ → Result (Option Kind) Fault
ends in_.Between start bytes = Ok None
ends in_.Name start bytes = if nat_le bytes 127 then Ok (Some kinds.Name) else Err (too_long start bytes)
ends (in_.Number value) start bytes = Ok (Some kinds.Number)
ends (in_.Quoted read) start bytes = Err (fault_at causes.OpenText start)
ends (in_.Escape read backslash) start bytes = Err (fault_at causes.OpenText start)
ends (in_.Closed read) start bytes = ends_quoted start read
ends (in_.Sign sign) start bytes = Ok (Some sign)
ends in_.LineComment start bytes = Ok None
ends in_.Slash start bytes = Err (fault_at causes.BadChar start)
ends in_.Comment start bytes = Err (fault_at causes.OpenText start)
ends in_.CommentStar start bytes = Err (fault_at causes.OpenText start)

-- the content of a quoted text, as far as it was read
abbrev pub counted : Mode → ℕ
counted (in_.Quoted read) = read.content
counted (in_.Escape read backslash) = read.content + 1
counted (in_.Closed read) = read.content
counted mode = 0

abbrev pub counted_after : Turn → ℕ
counted_after (turns.GoesOn mode) = counted mode
counted_after turn = 0
