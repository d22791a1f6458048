-- What a script in the code holds.
use Rattle.live.specs.Live.{meaning_of}
use Rattle.script.specs.declared.script.Script.{Script}
use Rattle.script.specs.Scripts.{State}

abbrev pub state_of : Script → State
state_of s = record { heap = meaning_of s.heap; line = s.line.items }
