use Rattle.desk_merge.specs.declared.entry.Entry.{Entry}
use Rattle.desk_merge.specs.Joined.{Item}

-- the key and the review of an entry
abbrev pub item_of : Entry → Item
item_of e = ((e.reviewer, e.proposal), (e.revision, e.points))
