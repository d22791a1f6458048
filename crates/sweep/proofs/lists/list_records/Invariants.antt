use Rattle.model.specs.Meaning.{record_at}
use Rattle.live.specs.Live.{meaning_of}
use Rattle.sweep.specs.Listing.{picks, clears}
use Rattle.sweep.proofs.lists.list_records.Given as goal

abbrev pub ghost-list : goal.ghost-list
ghost-list a = λ n. picks (clears a.goes.1.now) n (record_at (meaning_of a.goes.0.now) n)
