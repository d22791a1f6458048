-- What the code's tokens hold of a line.
use Rattle.std.specs.Prelude.{Ok, Err, Result}
use Rattle.text.specs.declared.refusal.Refusal.{Refusal}
use Rattle.text.specs.declared.words.Token.{Token}
use Rattle.text.specs.declared.words.Token.TheVariants.{Number, Letter, Other}
use Rattle.text.specs.declared.words.Words.{Words}
use Rattle.text.specs.Words.{Lexeme, numeral, letter, other, Reading}

abbrev pub lexeme_of : Token → Lexeme
lexeme_of (Number digits at) = numeral digits.now at
lexeme_of (Letter l at) = letter l.now at
lexeme_of (Other at) = other at

abbrev pub reading_of : Words → Reading
reading_of w = record {
  count = w.count;
  verb = lexeme_of w.verb;
  first = lexeme_of w.first;
  second = lexeme_of w.second;
  third = lexeme_of w.third;
  fourth = lexeme_of w.fourth;
}

abbrev pub reading_if : Result Words Refusal → Result Reading Refusal
reading_if (Ok w) = Ok (reading_of w)
reading_if (Err e) = Err e
