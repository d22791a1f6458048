use Rattle.model.specs.Meaning.{cell_at}
use Rattle.live.specs.Live.{meaning_of}
use Rattle.sweep.specs.Listing.{picks, drops}
use Rattle.sweep.proofs.lists.list_cells.Given as goal

abbrev pub ghost-list : goal.ghost-list
ghost-list a = λ n. picks (drops a.goes.1.now) n (cell_at (meaning_of a.goes.0.now) n)
