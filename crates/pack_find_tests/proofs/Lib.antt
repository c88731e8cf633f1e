mod TwoRowsLemmas
