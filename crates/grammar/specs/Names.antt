-- A new name.
use Rattle.grammar.specs.Reader.{Reader, ◌>>=◌, give}
use Rattle.grammar.specs.Grammar.{Ref, new, string}

-- the string of a new name
unfoldable pub new_name : Reader Ref
new_name = do
  t ← string
  give (new t)
