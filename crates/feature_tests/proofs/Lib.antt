mod NumbersLemmas
mod OrdersLemmas
mod TurnedLemmas
mod SumsLemmas
