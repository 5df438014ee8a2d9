-- The public functions of stations leave no choice: one answer, and one content of lent memory. Assumes nothing.
use mathlib.Core.Path.{refl, sym, ◌∙◌}
use mathlib.Core.List.{List}
use Rattle.stations.specs.declared.station.Station.{Station}
use Rattle.stations.specs.contracts as stations_contract
use Rattle.stations.proofs as stations
use Rattle.stations.specs.contracts.station.Station as Station_contract
use Rattle.stations.proofs.station.Station as Station
use Rattle.stations.specs.contracts.table.Table as Table_contract
use Rattle.stations.proofs.table.Table as Table
use Rattle.stations.specs.contracts.table.TableClone as TableClone_contract
use Rattle.stations.proofs.table.TableClone as TableClone
use Rattle.promises.specs.Unique.{Fixes, FixesPart}
use Rattle.promises.proofs.Unique.Laws.{two_facts, copies_alike, lefts_told_apart}

pub table_new_unique : Fixes Table_contract.new.ended Table.new.Reads.ensures Table.new.Reads.Post
table_new_unique = (λ w κs a x e. refl, λ κs a x y e f p q. p ∙ sym q)

pub clear_table_unique : Fixes Table_contract.clear.ended Table.clear.Reads.ensures Table.clear.Reads.Post
clear_table_unique = (λ w κs a x e. refl, λ κs a x y e f p q. refl)

pub clear_table_stations_unique :
    FixesPart Table_contract.clear.ended (λ κs. List Station) (λ κs x e. e.0.now)
    Table.clear.Reads.ensures Table.clear.Reads.Post
clear_table_stations_unique = (λ w κs a x e. refl, λ κs a x y e f p q. p ∙ sym q)

pub table-clone_unique : Fixes TableClone_contract.clone.ended TableClone.clone.Reads.ensures TableClone.clone.Reads.Post
table-clone_unique = (λ w κs a x e. refl, λ κs a x y e f p q. copies_alike a.0.now x y p q)

-- The contract speaks of what the answer shows, not of where it lies.
pub table_stations_unique :
    FixesPart Table_contract.stations.ended (λ κs. List Station) (λ κs x e. x.now)
    Table.stations.Reads.ensures Table.stations.Reads.Post
table_stations_unique = (λ w κs a x e. two_facts w _ _, λ κs a x y e f p q. p.0 ∙ sym q.0)

pub station_at_unique : Fixes Table_contract.station_at.ended Table.station_at.Reads.ensures Table.station_at.Reads.Post
station_at_unique = (λ w κs a x e. refl, λ κs a x y e f p q. p ∙ sym q)

pub station_count_unique : Fixes Table_contract.station_count.ended Table.station_count.Reads.ensures Table.station_count.Reads.Post
station_count_unique = (λ w κs a x e. refl, λ κs a x y e f p q. p ∙ sym q)

pub find_station_unique : Fixes Table_contract.find_station.ended Table.find_station.Reads.ensures Table.find_station.Reads.Post
find_station_unique = (λ w κs a x e. two_facts w _ _, λ κs a x y e f p q. p.0 ∙ sym q.0)

pub side_unique : Fixes stations_contract.side.ended stations.side.Reads.ensures stations.side.Reads.Post
side_unique = (λ w κs a x e. refl, λ κs a x y e f p q. p ∙ sym q)

pub hop_unique : Fixes Station_contract.hop.ended Station.hop.Reads.ensures Station.hop.Reads.Post
hop_unique = (λ w κs a x e. refl, λ κs a x y e f p q. p ∙ sym q)

pub station_attributes_unique : Fixes Station_contract.attributes.ended Station.attributes.Reads.ensures Station.attributes.Reads.Post
station_attributes_unique = (λ w κs a x e. refl, λ κs a x y e f p q. p ∙ sym q)

pub hear_report_unique : Fixes Table_contract.hear_report.ended Table.hear_report.Reads.ensures Table.hear_report.Reads.Post
hear_report_unique = (λ w κs a x e. refl, λ κs a x y e f p q. (lefts_told_apart e.0.now f.0.now x y (p ∙ sym q)).1)

pub hear_report_stations_unique :
    FixesPart Table_contract.hear_report.ended (λ κs. List Station) (λ κs x e. e.0.now)
    Table.hear_report.Reads.ensures Table.hear_report.Reads.Post
hear_report_stations_unique = (λ w κs a x e. refl, λ κs a x y e f p q. (lefts_told_apart e.0.now f.0.now x y (p ∙ sym q)).0)

pub give_attributes_unique : Fixes Table_contract.give_attributes.ended Table.give_attributes.Reads.ensures Table.give_attributes.Reads.Post
give_attributes_unique = (λ w κs a x e. refl, λ κs a x y e f p q. refl)

pub give_attributes_stations_unique :
    FixesPart Table_contract.give_attributes.ended (λ κs. List Station) (λ κs x e. e.0.now)
    Table.give_attributes.Reads.ensures Table.give_attributes.Reads.Post
give_attributes_stations_unique = (λ w κs a x e. refl, λ κs a x y e f p q. p ∙ sym q)

pub raise_ages_unique : Fixes Table_contract.raise_ages.ended Table.raise_ages.Reads.ensures Table.raise_ages.Reads.Post
raise_ages_unique = (λ w κs a x e. refl, λ κs a x y e f p q. refl)

pub raise_ages_stations_unique :
    FixesPart Table_contract.raise_ages.ended (λ κs. List Station) (λ κs x e. e.0.now)
    Table.raise_ages.Reads.ensures Table.raise_ages.Reads.Post
raise_ages_stations_unique = (λ w κs a x e. refl, λ κs a x y e f p q. p ∙ sym q)

pub purge_ringlet_unique : Fixes Table_contract.purge_ringlet.ended Table.purge_ringlet.Reads.ensures Table.purge_ringlet.Reads.Post
purge_ringlet_unique = (λ w κs a x e. refl, λ κs a x y e f p q. refl)

pub purge_ringlet_stations_unique :
    FixesPart Table_contract.purge_ringlet.ended (λ κs. List Station) (λ κs x e. e.0.now)
    Table.purge_ringlet.Reads.ensures Table.purge_ringlet.Reads.Post
purge_ringlet_stations_unique = (λ w κs a x e. refl, λ κs a x y e f p q. p ∙ sym q)
